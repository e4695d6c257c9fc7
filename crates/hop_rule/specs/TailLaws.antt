-- What the loaded word of a lane implies.
use Rattle.std.specs.Prelude.{◌≡◌, ℕ, ◌+◌, ◌/◌, ◌≤◌, List, length}
use Rattle.linearization.specs.Orders.{StepBy}
use Rattle.hop_rule.specs.Boards.{IsLawful, accepted, out}
use Rattle.hop_rule.specs.Moments.{IsStep, past}
use Rattle.hop_rule.specs.declared.sizes.BoardSizes.{BoardSizes}
use Rattle.hop_rule.specs.declared.step.BoardStep.{BoardStep}
use Rattle.hop_rule.specs.declared.step.BoardStep.TheVariants.{Counted, OutCounted}

-- The loaded word of a middle lane counts the packets that the lane had accepted, and there are no
-- fewer at the end.
abbrev pub LoadedTailsAreAccepted : Type 0
LoadedTailsAreAccepted =
    (about : BoardSizes) (order : List (StepBy BoardStep)) → IsLawful about order
    → (n q l w : ℕ) → IsStep order n q (Counted l w)
    → (w / 2 ≡ about.start + length (accepted about (past n order) l))
    × (length (accepted about (past n order) l) ≤ length (accepted about order l))

-- The loaded word of an out lane counts the packets that had been delivered to it, and there are no
-- fewer at the end.
abbrev pub LoadedTailsAreDelivered : Type 0
LoadedTailsAreDelivered =
    (about : BoardSizes) (order : List (StepBy BoardStep)) → IsLawful about order
    → (n q o w : ℕ) → IsStep order n q (OutCounted o w)
    → (w / 2 ≡ about.start + length (out about (past n order) o))
    × (length (out about (past n order) o) ≤ length (out about order o))

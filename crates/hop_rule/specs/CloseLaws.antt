-- What a close that did not shut shows, and a lane that was not found empty behind a close.
use Rattle.std.specs.Prelude.{◌≡◌, ◌≢◌, ℕ, ◌/◌, ◌%◌, ◌^◌, ◌<◌, List, length}
use Rattle.linearization.specs.Orders.{StepBy}
use Rattle.hop_rule.specs.Boards.{IsLawful, accepted, retired}
use Rattle.hop_rule.specs.Moments.{IsStep, past}
use Rattle.hop_rule.specs.SettingLaws.{open_visits}
use Rattle.hop_rule.specs.Sizes.{FitSizes, closer}
use Rattle.hop_rule.specs.declared.sizes.BoardSizes.{BoardSizes}
use Rattle.hop_rule.specs.declared.step.BoardStep.{BoardStep}
use Rattle.hop_rule.specs.declared.step.BoardStep.TheVariants.{Gate, Weighed, Counted}
use Rattle.hop_rule.specs.declared.step.GateStep.TheVariants.{NotShut, Opened, Shut}

-- A close that did not shut found visits open, as many as its word counts: so many seats were on a
-- visit or backing out at that moment, and at least one.
abbrev pub FoundVisitsAreOpen : Type 0
FoundVisitsAreOpen =
    (about : BoardSizes) (order : List (StepBy BoardStep)) → FitSizes about
    → IsLawful about order → (n q w : ℕ) → IsStep order n q (Gate (NotShut w))
    → (w % 2 ^ 32 ≡ open_visits about (past n order)) × (0 < open_visits about (past n order))

-- The closer closed the gate, and before it opened it again it loaded the head of the lane l and
-- then its tail, which are two counter numbers. Then a packet that the lane had accepted was not
-- retired yet when the gate was closed.
abbrev pub BusyLanesHavePackets : Type 0
BusyLanesHavePackets =
    (about : BoardSizes) (order : List (StepBy BoardStep)) → FitSizes about
    → IsLawful about order → (s m n l w head tail : ℕ) → s < m → m < n
    → IsStep order s (closer about) (Gate (Shut w))
    → IsStep order m (closer about) (Weighed l head)
    → IsStep order n (closer about) (Counted l tail)
    → ((k : ℕ) → s < k → k < n → IsStep order k (closer about) (Gate Opened) → ⊥)
    → head % 2 ^ 32 ≢ tail / 2 % 2 ^ 32
    → retired about (past s order) l < length (accepted about (past s order) l)

-- Orders of steps that are not lawful, as a wrong board would leave them.
use Rattle.std.specs.Prelude.{◌≡◌, ◌≢◌, ℕ, ◌<◌, List, ◌∷◌, Option, Some, None, length}
use Rattle.steer_base.specs.Lanes.{LaneLists}
use Rattle.steer_base.specs.declared.put.Put.{Put}
use Rattle.backlog.specs.Puts.{next_waiting}
use Rattle.linearization.specs.Orders.{StepBy, step_by}
use Rattle.hop_rule.specs.Boards.{IsLawful, lane_steps, lanes_of, retired}
use Rattle.hop_rule.specs.Deliveries.{delivered_from}
use Rattle.hop_rule.specs.Gates.{closed}
use Rattle.hop_rule.specs.LaneLaws.{HoldsByOwnSteps}
use Rattle.hop_rule.specs.Lanes.{holding}
use Rattle.hop_rule.specs.Moments.{IsStep}
use Rattle.hop_rule.specs.Owns.{own_of}
use Rattle.hop_rule.specs.SettingLaws.{closers}
use Rattle.hop_rule.specs.declared.sizes.BoardSizes.{BoardSizes}
use Rattle.hop_rule.specs.declared.step.BoardStep.{BoardStep}
use Rattle.hop_rule.specs.declared.step.BoardStep.TheVariants.{Lane, Gate}
use Rattle.hop_rule.specs.declared.step.Change.TheVariants.{Offered, Pulled}
use Rattle.hop_rule.specs.declared.step.GateStep.TheVariants.{Entered, Left, Read, Set}
use Rattle.hop_rule.specs.declared.step.LaneStep.TheVariants.{Freed, Retired}

-- A put into a lane that the seat does not hold is not lawful.
abbrev pub PutsElsewhere : Type 0
PutsElsewhere =
    (about : BoardSizes) (order : List (StepBy BoardStep)) (p l id : ℕ) (hash : Option ℕ)
    (answer : Put) → holding l (lane_steps (own_of order p)) ≡ None
    → IsLawful about (step_by p (Lane (Freed l (Offered id hash answer))) ∷ order) → ⊥

-- A pull of another packet than the one that waits longest is not lawful.
abbrev pub PullsTheNewest : Type 0
PullsTheNewest =
    (about : BoardSizes) (order : List (StepBy BoardStep)) (p l x id : ℕ) (found : LaneLists)
    → HoldsByOwnSteps order l p found → next_waiting found ≡ Some x → id ≢ x
    → IsLawful about (step_by p (Lane (Freed l (Pulled id))) ∷ order) → ⊥

-- A raise of a head is not lawful while all packets that were delivered are retired.
abbrev pub RetiresBeforeDelivery : Type 0
RetiresBeforeDelivery =
    (about : BoardSizes) (order : List (StepBy BoardStep)) (p l w : ℕ)
    → retired about order l ≡ length (delivered_from l (lanes_of order))
    → IsLawful about (step_by p (Lane (Retired l w)) ∷ order) → ⊥

-- A set is not lawful while the closer has not closed the gate.
abbrev pub SetsInAnOpenGate : Type 0
SetsInAnOpenGate =
    (about : BoardSizes) (order : List (StepBy BoardStep)) (p i v : ℕ)
    → closed (closers about order) ≡ 0
    → IsLawful about (step_by p (Gate (Set i v)) ∷ order) → ⊥

-- A visit that reads two values of one setting is not lawful.
abbrev pub ReadsTwoValues : Type 0
ReadsTwoValues =
    (about : BoardSizes) (order : List (StepBy BoardStep)) (e m n q w i v x : ℕ)
    → IsStep order e q (Gate (Entered w)) → e < m → m < n
    → ((k : ℕ) → e < k → k < n → IsStep order k q (Gate Left) → ⊥)
    → IsStep order m q (Gate (Read i v)) → IsStep order n q (Gate (Read i x)) → v ≢ x
    → IsLawful about order → ⊥

-- What steps that are added to a seat's own list change and what they leave.
use Rattle.std.specs.Prelude.{◌≡◌, ℕ, ◌+◌, ◌-◌, List, [], ◌∷◌, ◌++◌, length}
use Rattle.std.specs.List.{Contains}
use Rattle.hop_rule.specs.Boards.{gate_steps}
use Rattle.hop_rule.specs.Gates.{closed, visit, visit_number}
use Rattle.hop_rule.specs.Moments.{past}
use Rattle.hop_rule.specs.Owns.{visits_of}
use Rattle.hop_rule.specs.declared.sizes.BoardSizes.{BoardSizes}
use Rattle.hop_rule.specs.declared.step.BoardStep.{BoardStep}
use Rattle.hop_rule.specs.declared.step.BoardStep.TheVariants.{Gate}
use Rattle.hop_rule.specs.declared.step.GateStep.TheVariants.{Read}
use Rattle.board_api.specs.Calls.HeldLanes.{FitsLane, HoldsKind}
use Rattle.board_api.specs.Calls.Rights.{IsInside}
use Rattle.board_api.specs.OwnSteps.{Has, ReadsIn}
use Rattle.board_api.specs.Seats.{BoardSeatView}
use Rattle.board_api.specs.Calls.Results.{Took}
use Rattle.board_api.specs.declared.held_lane.HeldLane.{HeldLane}
use Rattle.board_api.specs.declared.held_lane.LaneId.{LaneId}

-- A seat that has taken a lane holds it.
abbrev pub TakenLanesAreHeld : Type 0
TakenLanesAreHeld =
    (about : BoardSizes) (lane : LaneId) (old new : BoardSeatView) (held : HeldLane)
    → FitsLane about lane → Took about lane old new held → HoldsKind about new.steps lane held

-- By these steps a seat is at the gate as by those: outside, inside or backing out, with the gate
-- closed by it or not, and with a last visit of the same number.
pub record StandsAs (now before : List BoardStep) : Type 0 where
  pub place : visit (gate_steps now) ≡ visit (gate_steps before)
  pub gate : closed (gate_steps now) ≡ closed (gate_steps before)
  pub number : visit_number (gate_steps now) ≡ visit_number (gate_steps before)

-- New steps that are no entry, leave, close, opening or set leave a seat at the gate as it was.
abbrev pub QuietStepsStay : Type 0
QuietStepsStay =
    (added own : List BoardStep) → visits_of added ≡ [] → StandsAs (added ++ own) own

-- A step has as its number how many steps are before it, and these are what was done before it.
abbrev pub StepsAreNumbered : Type 0
StepsAreNumbered =
    (newer older : List BoardStep) (d : BoardStep)
    → Has (newer ++ d ∷ older) (length older) d
    × (past (length older) (newer ++ d ∷ older) ≡ older)

-- A step has its number from its place in the list, counted from the newest.
abbrev pub PlacesAreNumbered : Type 0
PlacesAreNumbered =
    (own : List BoardStep) (d : BoardStep) (has : Contains own d)
    → Has own (length own - (has.0 + 1)) d

-- A setting that is read during a visit is read in a visit with that visit's number.
abbrev pub ReadsAreNumbered : Type 0
ReadsAreNumbered =
    (own : List BoardStep) (setting value : ℕ) → IsInside own
    → ReadsIn (Gate (Read setting value) ∷ own) (visit_number (gate_steps own)) setting value

-- What was read in a visit with some number stays so after more steps.
abbrev pub NumberedReadsStay : Type 0
NumberedReadsStay =
    (added own : List BoardStep) (number setting value : ℕ) → ReadsIn own number setting value
    → ReadsIn (added ++ own) number setting value

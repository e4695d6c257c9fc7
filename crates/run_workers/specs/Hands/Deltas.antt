-- What the calls of a hand add to its seat's own list. Lists have the newest step first.
use Rattle.std.specs.Prelude.{◌≡◌, ℕ, ◌<◌, ◌==◌, Bool, false, List, [], ◌++◌, None}
use Rattle.hop_rule.specs.Boards.{lane_steps}
use Rattle.hop_rule.specs.Lanes.{holding, out_holding, phase}
use Rattle.hop_rule.specs.declared.sizes.BoardSizes.{BoardSizes}
use Rattle.hop_rule.specs.declared.step.BoardStep.{BoardStep}
use Rattle.board_api.specs.Calls.HeldLanes.{HoldsMiddle, room_in}
use Rattle.board_api.specs.Calls.Results.{Took}
use Rattle.board_api.specs.OwnSteps.{delivered_by, retired_by}
use Rattle.board_api.specs.Seats.{BoardSeatView, Adds}
use Rattle.board_api.specs.declared.held_lane.HeldLane.{HeldLane}
use Rattle.board_api.specs.declared.held_lane.LaneId.TheVariants as id
use Rattle.hop_delivery.specs.Orders.Turns.{AreQuiet}

-- After these steps the seat holds no lane that it did not hold before.
pub record HoldsNoMore (added : List BoardStep) : Type 0 where
  pub lanes : (l : ℕ) (own : List BoardStep) → holding l (lane_steps own) ≡ None
      → holding l (lane_steps (added ++ own)) ≡ None
  pub outs : (o : ℕ) (own : List BoardStep) → out_holding o (lane_steps own) ≡ None
      → out_holding o (lane_steps (added ++ own)) ≡ None

-- These steps pull, deliver and retire no packet of the middle lane l.
pub record LeavesLane (l : ℕ) (added : List BoardStep) : Type 0 where
  pub hand : (own : List BoardStep)
      → phase l (lane_steps (added ++ own)) ≡ phase l (lane_steps own)
  pub retires : retired_by l added ≡ []
  pub deliveries : delivered_by l added ≡ []

-- The middle lane that is served, and none.
abbrev pub this_lane : ℕ → ℕ → Bool
this_lane lane l = lane == l

abbrev pub no_lane : ℕ → Bool
no_lane l = false

-- These steps put nothing and begin and end no visit, the seat holds no more lanes after them, and
-- of middle lanes that are not served they pull, deliver and retire nothing.
pub record OnlyServes (served : ℕ → Bool) (added : List BoardStep) : Type 0 where
  pub quiet : AreQuiet added
  pub holds : HoldsNoMore added
  pub others : (l : ℕ) → served l ≡ false → LeavesLane l added

-- The seat made such steps and no others.
pub record Serves (served : ℕ → Bool) (before after : BoardSeatView) : Type 0 where
  pub added : List BoardStep
  pub only : OnlyServes served added
  pub adds : Adds added before after

-- After such steps that serve no lane the seat took this middle lane, which has room.
pub record TakesLane (about : BoardSizes) (lane : ℕ) (before after : BoardSeatView)
    (held : HeldLane) : Type 0 where
  pub mid : BoardSeatView
  pub waits : Serves no_lane before mid
  pub took : Took about (id.Middle lane) mid after held
  pub holds : HoldsMiddle about after.steps held
  pub room : 0 < room_in held

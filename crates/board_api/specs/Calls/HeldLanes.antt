-- Lanes that a seat holds, by its own list. A seat may hold several.
use Rattle.std.specs.Prelude.{◌≡◌, ℕ, ◌-◌, ◌<◌, List, Some, length}
use Rattle.steer_base.specs.Lanes.{LaneLists}
use Rattle.backlog.specs.Puts.{put_count}
use Rattle.hop_rule.specs.Boards.{lane_steps, own_state, out_slot, empty}
use Rattle.hop_rule.specs.Lanes.{holding, out_holding, phase, idle}
use Rattle.hop_rule.specs.OutLanes.{OutList}
use Rattle.hop_rule.specs.declared.sizes.BoardSizes.{BoardSizes}
use Rattle.hop_rule.specs.declared.step.BoardStep.{BoardStep}
use Rattle.board_api.specs.Calls.Rights.{Pulls}
use Rattle.board_api.specs.declared.held_lane.HeldLane.{HeldLane}
use Rattle.board_api.specs.declared.held_lane.HeldLane.TheVariants.{Middle, Out}
use Rattle.board_api.specs.declared.held_lane.LaneId.{LaneId}
use Rattle.board_api.specs.declared.held_lane.LaneId.TheVariants as id

-- The lane is one of the board's.
abbrev pub FitsLane : BoardSizes → LaneId → Type 0
FitsLane about (id.Middle l) = l < about.lanes
FitsLane about (id.Out o) = o < about.outs

-- The number of packets that may still be put to a held lane or delivered to it.
abbrev pub room_in : HeldLane → ℕ
room_in (Middle l content) = content.room - put_count content
room_in (Out o content) = content.room - length content.items

-- By its own steps the seat holds the middle lane l, found this content there, and has moved it out
-- of its slot.
pub record IsMiddle (about : BoardSizes) (steps : List BoardStep) (l : ℕ) (content : LaneLists)
    : Type 0 where
  pub within : l < about.lanes
  pub holds : holding l (lane_steps steps) ≡ Some content
  pub slot : own_state about l steps ≡ empty

-- By its own steps the seat holds the out lane o, found this content there, and has moved it out of
-- its slot.
pub record IsOut (about : BoardSizes) (steps : List BoardStep) (o : ℕ) (content : OutList)
    : Type 0 where
  pub within : o < about.outs
  pub holds : out_holding o (lane_steps steps) ≡ Some content
  pub slot : own_state about (out_slot about o) steps ≡ empty

-- The held lane is a middle lane that the seat holds.
abbrev pub HoldsMiddle : BoardSizes → List BoardStep → HeldLane → Type 0
HoldsMiddle about steps (Middle l content) = IsMiddle about steps l content
HoldsMiddle about steps (Out o content) = ⊥

-- The held lane is an out lane that the seat holds.
abbrev pub HoldsOut : BoardSizes → List BoardStep → HeldLane → Type 0
HoldsOut about steps (Middle l content) = ⊥
HoldsOut about steps (Out o content) = IsOut about steps o content

-- The held lane is one that the seat holds.
abbrev pub Holds : BoardSizes → List BoardStep → HeldLane → Type 0
Holds about steps (Middle l content) = IsMiddle about steps l content
Holds about steps (Out o content) = IsOut about steps o content

-- The held lane is one that the seat holds, and of the kind that was asked for.
abbrev pub HoldsKind : BoardSizes → List BoardStep → LaneId → HeldLane → Type 0
HoldsKind about steps (id.Middle l) held = HoldsMiddle about steps held
HoldsKind about steps (id.Out o) held = HoldsOut about steps held

-- The seat is the one that pulls from the held middle lane.
abbrev pub PullsFrom : BoardSizes → ℕ → HeldLane → Type 0
PullsFrom about number (Middle l content) = Pulls about number l
PullsFrom about number (Out o content) = ⊥

-- The seat has no packet of the held middle lane in hand.
abbrev pub HasNoneOf : List BoardStep → HeldLane → Type 0
HasNoneOf steps (Middle l content) = phase l (lane_steps steps) ≡ idle
HasNoneOf steps (Out o content) = ⊥

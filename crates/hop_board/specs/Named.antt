-- Held lanes, and seats at a board, by their parts.
use Rattle.std.specs.Prelude.{◌≡◌, ℕ, Bool, []}
use Rattle.linearization.specs.Seats.{SeatView}
use Rattle.hop_rule.specs.declared.step.BoardStep.{BoardStep}
use Rattle.hop_rule.specs.declared.step.Slot.{Slot}
use Rattle.hop_rule.specs.declared.step.Slot.TheVariants as slot
use Rattle.board_api.specs.Seats.{BoardSeatView}
use Rattle.board_api.specs.declared.held_lane.HeldLane.{HeldLane}
use Rattle.board_api.specs.declared.held_lane.HeldLane.TheVariants as held
use Rattle.board_api.specs.declared.held_lane.LaneId.{LaneId}
use Rattle.board_api.specs.declared.held_lane.LaneId.TheVariants as id

-- The held lane with this number and with what was found in its slot.
abbrev pub held_as : ℕ → Slot → HeldLane
held_as number (slot.Middle y) = held.Middle number y
held_as number (slot.Out y) = held.Out number y

-- The number of a lane.
abbrev pub lane_number : LaneId → ℕ
lane_number (id.Middle l) = l
lane_number (id.Out o) = o

-- The held lane with this identifier and with what was found in its slot.
abbrev pub held_by : LaneId → Slot → HeldLane
held_by x found = held_as (lane_number x) found

-- The identifier of a held lane.
abbrev pub held_lane_id : HeldLane → LaneId
held_lane_id (held.Middle l y) = id.Middle l
held_lane_id (held.Out o y) = id.Out o

-- What was found in the slot of a held lane.
abbrev pub content_of : HeldLane → Slot
content_of (held.Middle l y) = slot.Middle y
content_of (held.Out o y) = slot.Out y

-- The seat at a board with this seat at its words, and whether it has found lanes empty.
abbrev pub board_seat : SeatView BoardStep → Bool → BoardSeatView
board_seat s emptied =
    record { table = s.table; number = s.number; steps = s.steps; has_emptied = emptied }

-- The seat has made no step.
abbrev pub HasNoSteps : SeatView BoardStep → Type 0
HasNoSteps s = s.steps ≡ []

-- The state of a seat between two calls.
use Rattle.std.specs.Prelude.{◌≡◌, ℕ, ◌==◌, Option, Some, None, if◌then◌else◌}
use Rattle.hop_rule.specs.Boards.{gate_steps, lane_steps}
use Rattle.hop_rule.specs.Gates.{Visit, closed, inside, openings, outside, visit}
use Rattle.hop_rule.specs.Lanes.{Phase, gave, has_pulled, holding, idle, out_holding, phase}
use Rattle.board_api.specs.Seats.{BoardSeatView}
use Rattle.board_api.specs.Views.{BoardView}

-- No packet in hand, of any lane.
abbrev pub no_hand : ℕ → Phase
no_hand l = idle

-- This phase for the lane l, and no packet in hand of any other lane.
abbrev pub hand_of : ℕ → Phase → ℕ → Phase
hand_of l p i = if l == i then p else idle

-- The seat with this number at this board: by its own steps it is at this place of the gate, has
-- closed the gate or not, holds no lane, and has these packets in hand.
pub record SeatIs (board : BoardView) (number : ℕ) (place : Visit) (gate : ℕ) (hand : ℕ → Phase)
    (seat : BoardSeatView) : Type 0 where
  pub table : seat.table ≡ board.table
  pub number_is : seat.number ≡ number
  pub place_is : visit (gate_steps seat.steps) ≡ place
  pub gate_is : closed (gate_steps seat.steps) ≡ gate
  pub lanes : (l : ℕ) → holding l (lane_steps seat.steps) ≡ None
  pub hands : (l : ℕ) → phase l (lane_steps seat.steps) ≡ hand l
  pub outs : (o : ℕ) → out_holding o (lane_steps seat.steps) ≡ None

-- The seat is outside, with no packet in hand.
abbrev pub SeatIsOutside : BoardView → ℕ → BoardSeatView → Type 0
SeatIsOutside board number seat = SeatIs board number outside 0 no_hand seat

-- The seat is outside, with no packet in hand, whatever its number.
abbrev pub IsDone : BoardView → BoardSeatView → Type 0
IsDone board seat = SeatIsOutside board seat.number seat

-- The seat is inside.
abbrev pub IsIn : BoardView → ℕ → BoardSeatView → Type 0
IsIn board number seat = SeatIs board number inside 0 no_hand seat

-- The seat has closed the gate and not opened it.
abbrev pub IsBehind : BoardView → ℕ → BoardSeatView → Type 0
IsBehind board number seat = SeatIs board number outside 1 no_hand seat

-- The seat has the packet of the lane that it pulled, if it pulled one.
abbrev pub HasTaken : BoardView → ℕ → ℕ → Option ℕ → BoardSeatView → Type 0
HasTaken board number lane (Some id) seat =
    SeatIs board number outside 0 (hand_of lane (has_pulled id)) seat
HasTaken board number lane None seat = SeatIsOutside board number seat

-- The seat has the packet of the lane that it delivered, if it found the out lane free.
abbrev pub HasGiven : BoardView → (number lane id : ℕ) → Option ℕ → BoardSeatView → Type 0
HasGiven board number lane id (Some place) seat =
    SeatIs board number outside 0 (hand_of lane gave) seat
HasGiven board number lane id None seat = HasTaken board number lane (Some id) seat

-- The number of times that the seat has opened the gate.
abbrev pub opened_by : BoardSeatView → ℕ
opened_by seat = openings (gate_steps seat.steps)

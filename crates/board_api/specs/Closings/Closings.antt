-- The closing of a board, and laws of closings.
use Rattle.std.specs.Prelude.{◌≡◌, ℕ, ◌<◌, ◌==◌, false, List, [], ◌∷◌, None, map, if◌then◌else◌}
use Rattle.std.specs.List.{range_with_len}
use Rattle.atomic_table.specs.Seated.{TableId}
use Rattle.linearization.specs.Orders.{StepBy}
use Rattle.linearization.specs.Seats.{ArePartsOf}
use Rattle.hop_rule.specs.Boards.{IsLawful, lane_steps}
use Rattle.hop_rule.specs.Lanes.{holding, out_holding, phase, idle}
use Rattle.hop_rule.specs.Owns.{own_of}
use Rattle.hop_rule.specs.Sizes.{FitSizes}
use Rattle.hop_rule.specs.declared.sizes.BoardSizes.{BoardSizes}
use Rattle.hop_rule.specs.declared.step.BoardStep.{BoardStep}
use Rattle.board_api.specs.Closings.Finals.{lists_of}
use Rattle.board_api.specs.Calls.Rights.{IsOutside}
use Rattle.board_api.specs.Seats.{BoardSeatView, ordered_seat}
use Rattle.board_api.specs.declared.lists.BoardLists.{BoardLists}

-- By its own list the seat is outside, holds no lane and has no packet in hand.
pub record IsAtRest (about : BoardSizes) (steps : List BoardStep) : Type 0 where
  pub visit : IsOutside steps
  pub lanes : (l : ℕ) → l < about.lanes → holding l (lane_steps steps) ≡ None
  pub hands : (l : ℕ) → l < about.lanes → phase l (lane_steps steps) ≡ idle
  pub outs : (o : ℕ) → o < about.outs → out_holding o (lane_steps steps) ≡ None

-- A board has ended: some lawful order of steps has the seats' own lists as its parts and no other
-- steps, and leaves these lists.
pub record HasEnded (about : BoardSizes) (seats : List BoardSeatView) (lists : BoardLists)
    : Type 0 where
  pub order : List (StepBy BoardStep)
  pub sizes : FitSizes about
  pub lawful : IsLawful about order
  pub parts : ArePartsOf order (map ordered_seat seats)
  pub leaves : lists ≡ lists_of about order

-- ---- laws of closings: they are about the seats' own lists and the lists that are left, and name
-- no order of all steps

-- The own list of the seat with this number, empty if no seat has it.
abbrev pub own_in : List BoardSeatView → ℕ → List BoardStep
own_in [] q = []
own_in (s ∷ seats) q = if s.number == q then s.steps else own_in seats q

-- The law holds at each closing of a board, for the seats' own lists and the lists that are left.
abbrev pub AtEachClosing : (BoardSizes → (ℕ → List BoardStep) → BoardLists → Type 0) → Type 0
AtEachClosing Holds =
    (about : BoardSizes) (seats : List BoardSeatView) (lists : BoardLists)
    → HasEnded about seats lists → Holds about (own_in seats) lists

-- ---- each lawful order may be that of a closing

-- The seat with this number after all steps of an order.
abbrev pub seat_in : TableId → List (StepBy BoardStep) → ℕ → BoardSeatView
seat_in table order number =
    record {
      table = table;
      number = number;
      steps = own_of order number;
      has_emptied = false;
    }

-- All seats of a board after all steps of an order, by number.
abbrev pub seats_in : TableId → BoardSizes → List (StepBy BoardStep) → List BoardSeatView
seats_in table about order = map (seat_in table order) (range_with_len 0 about.seats)

-- Each lawful order is that of some closing, whose seats have its parts as own lists.
abbrev pub EachOrderCloses : Type 0
EachOrderCloses =
    (table : TableId) (about : BoardSizes) (order : List (StepBy BoardStep)) → FitSizes about
    → IsLawful about order
    → HasEnded about (seats_in table about order) (lists_of about order)
    × (own_in (seats_in table about order) ≡ own_of order)

-- A seat at a board as contracts see it.
use Rattle.std.specs.Prelude.{◌≡◌, ℕ, ◌<◌, Bool, List, ◌++◌, slice_index}
use Rattle.atomic_table.specs.Seated.{TableId}
use Rattle.linearization.specs.Seats.{SeatView, seat_view}
use Rattle.hop_rule.specs.Boards.{lane_steps, gate_steps}
use Rattle.hop_rule.specs.Gates.{openings, visit_number}
use Rattle.hop_rule.specs.Lanes.{phase, has_pulled}
use Rattle.hop_rule.specs.declared.step.BoardStep.{BoardStep}

-- A seat at a board as contracts see it: its table, its number there, its own steps, the newest
-- first, and whether it has found lanes empty since it last closed the gate.
pub record BoardSeatView : Type 0 where
  pub table : TableId
  pub number : ℕ
  pub steps : List BoardStep
  pub has_emptied : Bool

-- The same seat as a seat of the order of all steps.
abbrev pub ordered_seat : BoardSeatView → SeatView BoardStep
ordered_seat s = seat_view s.table s.number s.steps

-- The fields that a seat keeps follow from its steps: of each lane the packet that it pulled and
-- has not delivered, the number of its openings, and the number of its last visit.
pub record KeepsSteps (steps : List BoardStep) (pulled : List ℕ) (opened visit : ℕ) : Type 0 where
  pub in_hand : (lane id : ℕ) → lane < 32 → phase lane (lane_steps steps) ≡ has_pulled id
      → slice_index pulled lane ≡ id
  pub opens : opened ≡ openings (gate_steps steps)
  pub number : visit ≡ visit_number (gate_steps steps)

-- The call added these steps to its seat's own list and changed nothing else that contracts see.
abbrev pub Adds : List BoardStep → BoardSeatView → BoardSeatView → Type 0
Adds added old new = new ≡ record old { steps = added ++ old.steps }

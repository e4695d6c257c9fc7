-- The order of all steps up to a moment.
use Rattle.std.specs.Prelude.{◌≡◌, ℕ, List}
use Rattle.atomic_table.specs.Table.{Step}
use Rattle.linearization.specs.Orders.{StepBy, AreBySeats}
use Rattle.linearization.specs.Seats.{SeatView, HasPart}

-- A possible past of a seat: a lawful order of steps by so many seats, in which the seat's steps
-- are its part.
pub record IsPastOf {D : Type 0} (lawful : List (StepBy D) → Type 0) (seats : ℕ)
    (seat : SeatView D) (order : List (StepBy D)) : Type 0 where
  pub is_lawful : lawful order
  pub by_seats : AreBySeats seats order
  pub part : HasPart order seat

-- The word that a step found is what a lawful order of so many seats' steps leaves there.
pub record Found {S D : Type 0} (lawful : List (StepBy D) → Type 0)
    (word_after : ℕ → List (StepBy D) → ℕ) (seats : ℕ)
    (st : Step S) (n : ℕ) (order : List (StepBy D)) : Type 0 where
  pub is_lawful : lawful order
  pub by_seats : AreBySeats seats order
  pub value : n ≡ word_after st.word order

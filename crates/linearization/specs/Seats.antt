-- Seats as contracts see them.
use Rattle.std.specs.Prelude.{◌≡◌, ℕ, zero, suc, ◌+◌, ◌<◌, List, [], ◌∷◌, map, length}
use Rattle.std.specs.Prelude.{slice_index, All}
use Rattle.std.specs.List.{Contains}
use Rattle.atomic_table.specs.Seated.{TableId}
use Rattle.linearization.specs.Orders.{StepBy, steps_of}

-- A seat as contracts see it: its table, its number there, and its own steps, the newest first.
pub record SeatView (D : Type 0) : Type 0 where
  pub table : TableId
  pub number : ℕ
  pub steps : List D

module _ {D : Type 0} where
  -- The seat of a table with this number and these steps.
  abbrev pub seat_view : TableId → ℕ → List D → SeatView D
  seat_view z p ds = record { table = z; number = p; steps = ds }

  -- The first k seats of a table from number n on, without a step.
  abbrev pub new_seats : TableId → ℕ → ℕ → List (SeatView D)
  new_seats z n zero = []
  new_seats z n (suc k) = seat_view z n [] ∷ new_seats z (n + 1) k

  -- The numbers of a list of seats.
  abbrev pub numbers_of : List (SeatView D) → List ℕ
  numbers_of seats = map (λ (s : SeatView D). s.number) seats

  -- The seat's steps are its part of the order.
  abbrev pub HasPart : List (StepBy D) → SeatView D → Type 0
  HasPart order s = s.steps ≡ steps_of s.number order

  -- The step was made by one of these seats.
  abbrev pub IsByOne : List (SeatView D) → StepBy D → Type 0
  IsByOne seats e = Contains (numbers_of seats) e.by

-- The seats' steps are the parts of this order, which has no other steps.
pub record ArePartsOf {D : Type 0} (order : List (StepBy D)) (seats : List (SeatView D))
    : Type 0 where
  pub each : All (HasPart order) seats
  pub whole : All (IsByOne seats) order

-- Exactly one of the seats has this number.
pub record HasOnce {D : Type 0} (seats : List (SeatView D)) (number : ℕ) : Type 0 where
  pub place : ℕ
  pub within : place < length seats
  pub here : slice_index (numbers_of seats) place ≡ number
  pub only : (k : ℕ) → k < length seats → slice_index (numbers_of seats) k ≡ number → k ≡ place

-- There are so many seats, and each number below that is the number of exactly one.
pub record AreNumbered {D : Type 0} (count : ℕ) (seats : List (SeatView D)) : Type 0 where
  pub counted : length seats ≡ count
  pub below : All (λ (s : SeatView D). s.number < count) seats
  pub each : (number : ℕ) → number < count → HasOnce seats number

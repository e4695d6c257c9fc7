-- How the seats of a table are taken back, and how it ends.
use Rattle.std.specs.Prelude.{◌≡◌, ℕ, List, length, map}
use mathlib.Core.Option.{Option, some}
use lib.ListN.{get_elem?}
use Rattle.atomic_table.specs.Seated.{TableId}
use Rattle.linearization.specs.declared.hands.Hand.{Hand}
use Rattle.linearization.specs.Orders.{StepBy, AreBySeats}
use Rattle.linearization.specs.Seats.{SeatView, seat_view, ArePartsOf, AreNumbered}

-- The seats of a table that have these hands.
abbrev pub seats_with : {D : Type 0} → TableId → List (Hand D) → List (SeatView D)
seats_with {D} table hands = map (λ (h : Hand D). seat_view table h.number h.steps) hands

-- What contracts see of the seats taken back so far: their table, and the seats.
pub record GatheredView (D : Type 0) : Type 0 where
  pub table : TableId
  pub seats : List (SeatView D)

-- How a table with a number of seats ends: its words and slots are what one lawful order of all the
-- seats' steps leaves, each number from 0 is that of one seat, each step is by one of the seats,
-- each seat's steps are its part of the order, and a slot that was at home has its value.
pub record Ends {S D : Type 0} (count : ℕ)
    (lawful : List (StepBy D) → List ℕ → List (Option S) → Type 0)
    (seats : List (SeatView D)) (words : List ℕ) (slots : List S) : Type 0 where
  pub order : List (StepBy D)
  pub homes : List (Option S)
  pub lawfully : lawful order words homes
  pub numbered : AreNumbered count seats
  pub by_seats : AreBySeats count order
  pub parts : ArePartsOf order seats
  pub counted : length homes ≡ length slots
  pub at_home : (k : ℕ) (y : S) → get_elem? homes k ≡ some (some y) → get_elem? slots k ≡ some y

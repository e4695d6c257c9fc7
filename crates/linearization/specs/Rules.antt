-- The rule of a table: one order of all steps, and each hand has the steps of its own seat.
use Rattle.std.specs.Prelude.{◌≡◌, ℕ, ◌<◌, List, ◌∷◌}
use mathlib.Core.Option.{Option, some}
use lib.ListN.{get_elem?}
use Rattle.atomic_table.specs.Table.{State, Me, Step}
use Rattle.linearization.specs.declared.hands.Hand.{Hand}
use Rattle.linearization.specs.declared.hands.Hands.{Hands}
use Rattle.linearization.specs.Orders.{StepBy, steps_of, AreBySeats}
use Rattle.linearization.specs.Views.{one, number_in, steps_in}

-- The hand at place m of view j has its seat's steps of the order, and no other place has a hand of
-- this number.
abbrev pub IsPart : {D : Type 0} → (seats : ℕ) → List (StepBy D) → (ℕ → ℕ × ℕ) → (view place : ℕ)
    → Hand D → Type 0
IsPart seats order place j m h =
    (h.number < seats) × (place h.number ≡ (j, m)) × (h.steps ≡ steps_of h.number order)

-- Each view has the steps of its hands in this order, and each step is by one of so many seats.
pub record Views {D : Type 0} (seats : ℕ) (order : List (StepBy D)) (views : List (Hands D))
    : Type 0 where
  pub place : ℕ → ℕ × ℕ
  pub each_hand : (j : ℕ) (v : Hands D) → get_elem? views j ≡ some v
      → (m : ℕ) (h : Hand D) → get_elem? v.hands m ≡ some h → IsPart seats order place j m h
  pub by_seats : AreBySeats seats order

-- The words and the values at home are what one lawful order of all steps leaves, and each view has
-- its part of it.
pub record Ordered {S D : Type 0} (seats : ℕ)
    (lawful : List (StepBy D) → List ℕ → List (Option S) → Type 0)
    (s : State S (Hands D)) : Type 0 where
  pub order : List (StepBy D)
  pub lawfully : lawful order s.words s.homes
  pub views_are : Views seats order s.views

-- A step without slots: the seat's list gains this one step, and the word that was found implies
-- this about the order before it.
pub record Made {S D : Type 0} (makes : Step S → ℕ → D)
    (tells : Step S → ℕ → List (StepBy D) → Type 0)
    (st : Step S) (m : Me S (Hands D)) (n : ℕ) (m' : Me S (Hands D)) : Type 0 where
  pub adds : m' ≡ (one (number_in m.0) (makes st n ∷ steps_in m.0), m.1)
  pub order : List (StepBy D)
  pub part : steps_in m.0 ≡ steps_of (number_in m.0) order
  pub told : tells st n order

-- A step that may take or give slots: the seat's list gains one step, which is related to the word
-- that was found and the slots carried before and after.
pub record Moved {S D : Type 0} (moved : Step S → ℕ → D → List (ℕ × S) → List (ℕ × S) → Type 0)
    (st : Step S) (m : Me S (Hands D)) (n : ℕ) (m' : Me S (Hands D)) : Type 0 where
  pub added : D
  pub adds : m'.0 ≡ one (number_in m.0) (added ∷ steps_in m.0)
  pub as_told : moved st n added m.1 m'.1

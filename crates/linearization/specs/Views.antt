-- What a seat knows at the table: its hands, each with the steps of one numbered seat.
use Rattle.std.specs.Prelude.{◌≡◌, ℕ, zero, suc, ◌+◌, List, [], ◌∷◌, ◌++◌}
use Rattle.atomic_table.specs.Table.{Me, Step}
use Rattle.linearization.specs.declared.hands.Hand.{Hand}
use Rattle.linearization.specs.declared.hands.Hands.{Hands}

module _ {D : Type 0} where
  -- The hand of the seat p with these steps.
  abbrev pub hand : ℕ → List D → Hand D
  hand p ds = record { number = p; steps = ds }

  -- The hands of a seat that has only the hand of the seat p, with these steps.
  abbrev pub one : ℕ → List D → Hands D
  one p ds = record { hands = hand p ds ∷ [] }

  -- The hands of a seat that has none.
  abbrev pub no_hands : Hands D
  no_hands = record { hands = [] }

  -- k hands without a step, numbered from n on.
  abbrev pub fresh : ℕ → ℕ → List (Hand D)
  fresh n zero = []
  fresh n (suc k) = hand n [] ∷ fresh (n + 1) k

  -- The hands of all seats before any step, which the first seat of a table has.
  abbrev pub all_hands : ℕ → Hands D
  all_hands seats = record { hands = fresh 0 seats }

  -- The first hand of a list, or that of the seat 0 without a step if there is none.
  abbrev pub first_hand : List (Hand D) → Hand D
  first_hand [] = hand 0 []
  first_hand (h ∷ hs) = h

  -- The seat number of the first hand.
  abbrev pub number_in : Hands D → ℕ
  number_in v = (first_hand v.hands).number

  -- The steps of the first hand.
  abbrev pub steps_in : Hands D → List D
  steps_in v = (first_hand v.hands).steps

  -- All hands after the first.
  abbrev pub behind_first : List (Hand D) → List (Hand D)
  behind_first [] = []
  behind_first (h ∷ hs) = hs

  -- The first hand as a list, empty if there is none.
  abbrev pub up_to_first : List (Hand D) → List (Hand D)
  up_to_first [] = []
  up_to_first (h ∷ hs) = h ∷ []

  -- The hands that a seat keeps at a split: all but the first.
  abbrev pub kept_hands : Hands D → Hands D
  kept_hands v = record { hands = behind_first v.hands }

  -- The hands that a new seat receives at a split: the first.
  abbrev pub given_hands : Hands D → Hands D
  given_hands v = record { hands = up_to_first v.hands }

  -- The hands after a join: those of the other seat, then its own.
  abbrev pub joined_hands : Hands D → Hands D → Hands D
  joined_hands v w = record { hands = w.hands ++ v.hands }

  -- After this play the new seat has no hand.
  abbrev pub HasNone : {S : Type 0} → Step S → Me S (Hands D) → ℕ → Me S (Hands D) → Type 0
  HasNone st m n m' = m'.0 ≡ no_hands

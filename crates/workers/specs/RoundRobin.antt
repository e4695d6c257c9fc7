-- Items that are dealt out in turn to a number of hands.
use Rattle.std.specs.Prelude.{◌≡◌, ℕ, ◌/◌, ◌%◌, List, Option, [], length, slice_get, slice_index_or}

-- The hand with this number, empty if there is none.
abbrev pub hand_at : {A : Type 0} → List (List A) → ℕ → List A
hand_at hands h = slice_index_or hands h []

-- The item with this number, if there is one, of those that were dealt out in turn to these hands.
abbrev pub dealt_item : {A : Type 0} → List (List A) → ℕ → Option A
dealt_item hands n = slice_get (hand_at hands (n % length hands)) (n / length hands)

-- These hands have just these items, dealt out in turn, hand 0 first.
abbrev pub AreDealt : {A : Type 0} → List A → List (List A) → Type 0
AreDealt items hands = (n : ℕ) → slice_get items n ≡ dealt_item hands n

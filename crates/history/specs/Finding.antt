-- Whether a packet is in a list, and what a list says about it.
use Rattle.std.specs.Prelude.{ℕ, ◌≡◌, ◌<◌, Bool, List, [], ◌∷◌, Option, Some, None, ◌==◌, is_some}
use Rattle.std.specs.Prelude.{length, slice_index, take, if◌then◌else◌}
use Rattle.std.specs.Option.{option_or}
use Rattle.steer_base.specs.Entries.{place_in}

-- whether a packet is in a list
abbrev pub is_in : ℕ → List ℕ → Bool
is_in x xs = is_some (place_in x xs)

-- whether a packet is among the first n of a list
abbrev pub is_among : ℕ → ℕ → List ℕ → Bool
is_among n x xs = is_in x (take n xs)

-- the first item of a list with this key
abbrev pub found : {A : Type 0} → (A → ℕ) → ℕ → List A → Option A
found key x [] = None
found key x (a ∷ rest) = if x == key a then Some a else found key x rest

-- the first result that looking into some values yields
abbrev pub first_some : {A B : Type 0} → (A → Option B) → List A → Option B
first_some look [] = None
first_some look (a ∷ rest) = option_or (look a) (first_some look rest)

-- no packet occurs twice in a list
abbrev pub Once : List ℕ → Type 0
Once xs = (i j : ℕ) → i < length xs → j < length xs → slice_index xs i ≡ slice_index xs j → i ≡ j

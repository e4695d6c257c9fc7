-- One slot for each packet, filled by passes over lists; the first value noted for a packet is
-- kept.
use Rattle.std.specs.Prelude.{ℕ, zero, suc, ◌≡◌, ◌<◌, List, [], ◌∷◌, Option, Some, None, length}
use Rattle.std.specs.Prelude.{slice_index_or, slice_set}
use Rattle.std.specs.Option.{option_or}

-- the slots after a value was noted for a packet: its slot keeps the first value
abbrev pub noted : {T : Type 0} → List (Option T) → ℕ → T → List (Option T)
noted slots x value = slice_set slots x (option_or (slice_index_or slots x None) (Some value))

-- the slots after each item of a list was noted under its key, the items numbered from i
abbrev pub noted_by : {A T : Type 0} → (A → ℕ) → (ℕ → A → T) → ℕ → List (Option T) → List A
    → List (Option T)
noted_by key value i slots [] = slots
noted_by key value i slots (a ∷ rest) =
    noted_by key value (suc i) (noted slots (key a) (value i a)) rest

-- `count` slots, each with the result of `look` for its packet.
pub record IsIndex {T : Type 0} (count : ℕ) (slots : List (Option T))
    (look : ℕ → Option T) : Type 0 where
  pub width : length slots ≡ count
  pub slot : (x : ℕ) → x < count → slice_index_or slots x None ≡ look x

-- the place that a word stands for: none is 0
abbrev pub place_of_word : ℕ → Option ℕ
place_of_word zero = None
place_of_word (suc n) = Some (suc n)

-- Prefixes, lists without a common member, and delivery in order.
use Rattle.std.specs.Prelude.{ℕ, ◌≡◌, ◌<◌, ◌++◌, Bool, not, ◌&&◌, List, [], ◌==◌, length, filter}
use Rattle.std.specs.Prelude.{slice_index, slice_index_or}
use Rattle.std.specs.List.{list_any}
use Rattle.steer_base.specs.declared.put.LaneDrop.{LaneDrop}

-- ys begins with xs
abbrev pub IsPrefix : List ℕ → List ℕ → Type 0
IsPrefix xs ys = (rest : List ℕ) × (xs ++ rest ≡ ys)

-- No packet occurs twice in all these lists together: equal members are at one place of one list.
abbrev pub Apart : List (List ℕ) → Type 0
Apart lists =
    (p q i j : ℕ) → p < length lists → q < length lists
    → i < length (slice_index_or lists p []) → j < length (slice_index_or lists q [])
    → slice_index (slice_index_or lists p []) i ≡ slice_index (slice_index_or lists q []) j
    → (p ≡ q) × (i ≡ j)

-- whether a packet is among the drops of some lane
abbrev pub was_dropped : List (List LaneDrop) → ℕ → Bool
was_dropped drops x = list_any (λ fell. list_any (λ d. d.id == x) fell) drops

-- Delivery in order of a set of packets: those in the out lane are a prefix of those that arrived,
-- without the dropped ones.
abbrev pub InOrder : (ℕ → Bool) → List ℕ → List (List LaneDrop) → List ℕ → Type 0
InOrder set arrivals drops delivered =
    IsPrefix (filter set delivered) (filter (λ x. set x && not (was_dropped drops x)) arrivals)

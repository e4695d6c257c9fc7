-- Maps from keys to numbers.
use Rattle.std.specs.Prelude.{ℕ, ◌+◌, ◌≡◌, ◌⊎◌, Some, None}
use Rattle.std.specs.BTreeMap.{BTreeMap, Updates, btree_map_len, get}
use Rattle.std.specs.declared.cmp.Ordering.{Ordering}

-- A key that is known keeps its number.
pub record KeepsNumber {K : Type 0} (cmp : K → K → Ordering) (old new : BTreeMap K ℕ) (key : K)
    (number : ℕ) : Type 0 where
  pub known : get cmp old key ≡ Some number
  pub same : new ≡ old

-- A new key gets the next number.
pub record GetsNumber {K : Type 0} (cmp : K → K → Ordering) (old new : BTreeMap K ℕ) (key : K)
    (next number : ℕ) : Type 0 where
  pub unknown : get cmp old key ≡ None
  pub number_is : number ≡ next
  pub updates : Updates cmp old new key (Some number)
  pub longer : btree_map_len new ≡ btree_map_len old + 1

-- The number at a key: its own if it is known, otherwise the next one.
abbrev pub IsNumberAt : {K : Type 0} → (K → K → Ordering) → BTreeMap K ℕ → BTreeMap K ℕ → K → ℕ
    → ℕ → Type 0
IsNumberAt cmp old new key next number =
    KeepsNumber cmp old new key number ⊎ GetsNumber cmp old new key next number

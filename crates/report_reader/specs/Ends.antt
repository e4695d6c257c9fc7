-- Where a field ends.
use Rattle.std.specs.Prelude.{ℕ, ◌≡◌, ◌≤◌, ◌<◌, ◌≢◌, ◌⊎◌, ◌-◌, List, length, slice_index, ◌++◌}
use Rattle.std.specs.Prelude.{◌∷◌, drop, take}
use Rattle.report.specs.Texts.{AreFields, IsField, further}

-- The first space or line feed from a place on, or the end of the bytes.
pub record IsEnd (bytes : List ℕ) (at end : ℕ) : Type 0 where
  pub behind : at ≤ end
  pub within : end ≤ length bytes
  pub plain : (j : ℕ) → at ≤ j → j < end
      → (slice_index bytes j ≢ 32) × (slice_index bytes j ≢ 10)
  pub stop : end < length bytes → (slice_index bytes end ≡ 32) ⊎ (slice_index bytes end ≡ 10)

-- the bytes from a place on and before another
abbrev pub piece : (bytes : List ℕ) → (at end : ℕ) → List ℕ
piece bytes at end = take (end - at) (drop at bytes)

-- A line that is being read: the fields so far, the next one, those behind it, and what follows.
pub record Going (bytes : List ℕ) (start : ℕ) (done all : List (List ℕ)) (rest : List ℕ) : Type 0
  where
    pub next : List ℕ
    pub more : List (List ℕ)
    pub parts : done ++ (next ∷ more) ≡ all
    pub text : drop start bytes ≡ next ++ (further more ++ rest)
    pub is_field : IsField next
    pub are_fields : AreFields more

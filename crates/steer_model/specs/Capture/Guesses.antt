-- The keys that were noted beside a map of their numbers.
use Rattle.std.specs.Prelude.{ℕ, ◌≡◌, ◌⊎◌, List, Option, Some, None, get_or}
use Rattle.steer_model.specs.declared.flow_key.ShortKey.{ShortKey}

-- the key that is noted with a number, if one is
abbrev pub key_at : List (Option ShortKey) → ℕ → Option ShortKey
key_at keys number = get_or keys number None

-- At most this key is noted besides those before, and with this number.
abbrev pub AddsKey : (old new : List (Option ShortKey)) → ShortKey → ℕ → Type 0
AddsKey old new key number = (n : ℕ) (k : ShortKey) → key_at new n ≡ Some k
    → (key_at old n ≡ Some k) ⊎ ((n ≡ number) × (k ≡ key))

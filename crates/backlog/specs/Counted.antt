-- The window of the last 256 buckets, and the counts of each of the 4,096 buckets in it.
use Rattle.std.specs.Prelude.{ℕ, ◌≡◌, ◌<◌, ◌≤◌, List, ◌==◌, count_by, length, slice_index}
use Rattle.std.specs.List.{All}
use Rattle.circular_buffer.specs.Buffer.{Buffer}
use Rattle.steer_base.specs.declared.limits.TheConstants.{FLOW_LIMIT_BUCKETS}

-- Each count is how often its bucket is in the window.
abbrev pub IsCountOf : List ℕ → List ℕ → Type 0
IsCountOf counts window =
    (bucket : ℕ) → bucket < FLOW_LIMIT_BUCKETS
    → slice_index counts bucket ≡ count_by (λ b. b == bucket) window

-- A ring holds the window of at most 256 buckets, with the count of each bucket in it.
pub record IsWindow (last : Buffer ℕ) (counts : List ℕ) : Type 0 where
  pub capacity : last.capacity ≡ 256
  pub few : length last.items ≤ 256
  pub buckets : All (λ b. b < FLOW_LIMIT_BUCKETS) last.items
  pub width : length counts ≡ FLOW_LIMIT_BUCKETS
  pub counted : IsCountOf counts last.items

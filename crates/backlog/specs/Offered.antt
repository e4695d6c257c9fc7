-- The offers to a lane, and how often the bucket of one occurs among the last ones.
use Rattle.std.specs.Prelude.{ℕ, Bool, List, [], ◌∷◌}
use Rattle.std.specs.Prelude.{◌++◌, Option, Some, None, if◌then◌else◌}
use Rattle.std.specs.Option.{option_map}
use Rattle.steer_base.specs.Drops.{bucket_count, last_of}

-- the buckets of all offers in order, the room for them, and whether the flow limit applies
pub record OfferedBuckets : Type 0 where
  pub buckets : List (Option ℕ)
  pub room : ℕ
  pub limited : Bool

-- these buckets with this room, with the flow limit or without
abbrev pub offered : List (Option ℕ) → ℕ → Bool → OfferedBuckets
offered buckets room limited = record { buckets = buckets; room = room; limited = limited }

-- how often the bucket of the next offer occurs among the last ones, if the flow limit applies
abbrev pub noted_count : OfferedBuckets → Option ℕ → Option ℕ
noted_count offers bucket =
    if offers.limited then option_map (bucket_count offers.buckets) bucket else None

-- the window of the last 256 buckets after an offer: as it was if the offer has no bucket
abbrev pub window_after : List ℕ → Option ℕ → List ℕ
window_after window None = window
window_after window (Some bucket) = last_of 256 (window ++ bucket ∷ [])

-- The offers of a lane, and how its drops are explained by them.
use Rattle.std.specs.Prelude.{ℕ, ◌≡◌, ◌-◌, ◌≤◌, List, Option, Some, length, map, take, slice_get}
use Rattle.std.specs.List.{All}
use Rattle.steer_base.specs.Drops.{bucket_of, drop_cause, offers_of}
use Rattle.steer_base.specs.Lanes.{LaneLists}
use Rattle.steer_base.specs.declared.put.LaneDrop.{LaneDrop}

-- the flow-limit buckets of packets, by their hashes
abbrev pub buckets_of : (ℕ → Option ℕ) → List ℕ → List (Option ℕ)
buckets_of hash packets = map (λ packet. bucket_of (hash packet)) packets

-- The offers to a lane are the buckets of its accepted and dropped packets in the order of their
-- puts, and no drop counted more packets than were accepted.
pub record AreOffers (hash : ℕ → Option ℕ) (l : LaneLists) : Type 0 where
  pub buckets : l.offers ≡ buckets_of hash (offers_of l.accepted l.drops)
  pub counts : All (λ d. d.accepted ≤ length l.accepted) l.drops

-- The drop at index k has the cause that its two counts and the offers before it give.
abbrev pub IsExplained : (ℕ → Option ℕ) → LaneLists → ℕ → LaneDrop → Type 0
IsExplained hash l k d =
    drop_cause l.limited l.limit (d.accepted - d.pulled)
    (buckets_of hash (offers_of (take d.accepted l.accepted) (take k l.drops))) (hash d.id)
    ≡ Some d.cause

-- Each drop of a lane has the cause that its two counts and the offers before it give.
abbrev pub AllExplained : (ℕ → Option ℕ) → LaneLists → Type 0
AllExplained hash l = (k : ℕ) (d : LaneDrop) → slice_get l.drops k ≡ Some d → IsExplained hash l k d

-- How the parts of a lane keep its lists.
use Rattle.std.specs.Prelude.{ℕ, ◌≡◌, ◌≤◌, Bool, ◌||◌, List, nat_lt, if◌then◌else◌}
use Rattle.steer_base.specs.Lanes.{LaneLists}
use Rattle.steer_base.specs.declared.put.LaneDrop.{LaneDrop}
use Rattle.backlog.specs.Offered.{OfferedBuckets}
use Rattle.backlog.specs.Puts.{IsLane}
use Rattle.backlog.specs.Queues.{QueueLists}
use Rattle.backlog.specs.declared.limits.TheConstants.{MAX_LANE_ROOM}

-- the lists of a lane from its parts
abbrev pub lane_lists : QueueLists → OfferedBuckets → List LaneDrop → (limit room start : ℕ)
    → LaneLists
lane_lists queue offers drops limit room start =
    record {
      accepted = queue.accepted;
      offers = offers.buckets;
      drops = drops;
      pulled = queue.pulled;
      limit = limit;
      room = room;
      start = start;
      limited = offers.limited;
    }

-- the most packets that a lane can drop, by its limit, its room and whether the flow limit applies:
-- none if all may wait at once and no flow limit applies
abbrev pub most_drops : ℕ → ℕ → Bool → ℕ
most_drops limit room limited = if limited || nat_lt limit room then room else 0

-- The parts of a lane have its limit and its room, and memory for as many drops as there can be.
pub record IsKept (l : LaneLists) (queue : QueueLists) (offers : OfferedBuckets)
    (drops_capacity : ℕ) : Type 0 where
  pub lane : IsLane l
  pub limit : queue.limit ≡ l.limit
  pub queue_room : queue.room ≡ l.room
  pub offers_room : offers.room ≡ l.room
  pub reserved : most_drops l.limit l.room l.limited ≤ drops_capacity
  pub small : l.room ≤ MAX_LANE_ROOM

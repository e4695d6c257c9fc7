-- The shape that a hop is made with, and the hop in which nothing has happened.
use Rattle.std.specs.Prelude.{ℕ, ◌+◌, ◌<◌, ◌≤◌, ◌≡◌, ◌^◌, Bool, false, List, []}
use Rattle.std.specs.Prelude.{length, map, replicate, if◌then◌else◌}
use Rattle.std.specs.List.{All}
use Rattle.steer_base.specs.Counters.{rounded_up}
use Rattle.steer_base.specs.declared.limits.TheConstants.{MAX_FLOW_COUNT}
use Rattle.dev_flow_table.specs.declared.table.TheConstants.{MAX_EXACT_CLASSES}
use Rattle.hop_model.specs.declared.shape.HopShape.{HopShape}
use Rattle.hop_model.specs.declared.shape.TheConstants.{MAX_HOP_ROOM}
use Rattle.hop_model.specs.Hop.{Fixed, HopState}

-- the largest number of classes of a producer
abbrev pub most_classes : Bool → ℕ
most_classes exact = if exact then MAX_EXACT_CLASSES else MAX_FLOW_COUNT

-- The requirements on the shape of a hop: at least one packet may wait in a lane, the room is at
-- most MAX_HOP_ROOM, there are 1 to 32 producers, lanes and out lanes and at most 64 guests, and
-- one number of classes for each producer.
pub record IsShape (shape : HopShape) : Type 0 where
  pub limit : 1 ≤ shape.limit
  pub room : shape.room ≤ MAX_HOP_ROOM
  pub producers : 1 ≤ shape.producers
  pub few_producers : shape.producers ≤ 32
  pub guests : shape.guests ≤ 64
  pub lanes : 1 ≤ shape.lanes
  pub few_lanes : shape.lanes ≤ 32
  pub outs : 1 ≤ shape.outs
  pub few_outs : shape.outs ≤ 32
  pub counts : length shape.counts.items ≡ shape.producers
  pub classes : All (λ count. count ≤ most_classes shape.exact) shape.counts.items
  pub start : shape.start < 2 ^ 32

-- the number of classes for a count: the count itself if the shape is exact, otherwise rounded up
-- to a power of two
abbrev pub classes_for : Bool → ℕ → ℕ
classes_for exact count = if exact then count else rounded_up count

-- a hop in which nothing has happened, with one producer for each of these numbers of classes
abbrev pub fresh_hop : Fixed → List ℕ → (guests lanes outs : ℕ) → HopState
fresh_hop fixed counts guests lanes outs =
    record {
      fixed = fixed;
      bare = record {
        accepted = replicate lanes [];
        offers = replicate lanes [];
        drops = replicate lanes [];
        pulled = replicate lanes 0;
        delivered = replicate lanes 0;
        retired = replicate lanes 0;
        outs = replicate outs [];
        inside = 0;
        closed = false;
      };
      counts = counts;
      arrivals = replicate (length counts) [];
      taken = replicate (length counts) 0;
      choices = replicate (length counts) [];
      placed = replicate (length counts) 0;
      since = replicate (length counts) 0;
      visits = replicate (length counts + guests) false;
    }

-- the fixed part of a hop of this shape
abbrev pub fixed_of : HopShape → Fixed
fixed_of shape =
    record {
      limit = shape.limit;
      room = shape.room;
      start = shape.start;
      exact = shape.exact;
      limited = shape.limited;
    }

-- the hop that is made with this shape
abbrev pub new_hop : HopShape → HopState
new_hop shape =
    fresh_hop (fixed_of shape) (map (classes_for shape.exact) shape.counts.items)
    shape.guests shape.lanes shape.outs

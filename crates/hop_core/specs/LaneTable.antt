-- The lanes of a hop, by the lists of each.
use Rattle.std.specs.Prelude.{ℕ, ◌<◌, List, [], Option, length, slice_index, slice_index_or}
use Rattle.std.specs.Prelude.{slice_set, replicate}
use Rattle.steer_base.specs.Lanes.{LaneLists}
use Rattle.steer_base.specs.Sets.{has}
use Rattle.steer_base.specs.declared.cpu_mask.CpuMask.{CpuMask}
use Rattle.steer_base.specs.declared.put.LaneDrop.{LaneDrop}
use Rattle.backlog.specs.Puts.{SameShape, new_lane}

-- Lanes of one limit, one room and one first counter number, with the set of those under the flow
-- limit.
pub record LaneTable : Type 0 where
  pub accepted : List (List ℕ)
  pub offers : List (List (Option ℕ))
  pub drops : List (List LaneDrop)
  pub pulled : List ℕ
  pub limit : ℕ
  pub room : ℕ
  pub start : ℕ
  pub limited : CpuMask

-- the lane with this number
abbrev pub lane_at : LaneTable → ℕ → LaneLists
lane_at t c =
    record {
      accepted = slice_index_or t.accepted c [];
      offers = slice_index_or t.offers c [];
      drops = slice_index_or t.drops c [];
      pulled = slice_index t.pulled c;
      limit = t.limit;
      room = t.room;
      start = t.start;
      limited = has t.limited c;
    }

-- the lanes with other lists for one of them
abbrev pub with_lane : LaneTable → ℕ → LaneLists → LaneTable
with_lane t c l =
    record t {
      accepted = slice_set t.accepted c l.accepted;
      offers = slice_set t.offers c l.offers;
      drops = slice_set t.drops c l.drops;
      pulled = slice_set t.pulled c l.pulled;
    }

-- `count` empty lanes
abbrev pub new_lanes : (count limit room start : ℕ) → CpuMask → LaneTable
new_lanes count limit room start limited =
    record {
      accepted = replicate count [];
      offers = replicate count [];
      drops = replicate count [];
      pulled = replicate count 0;
      limit = limit;
      room = room;
      start = start;
      limited = limited;
    }

-- Each lane has this limit, room and first counter number, and the flow limit if it is in the set.
abbrev pub AreShaped : (limit room start : ℕ) → CpuMask → List LaneLists → Type 0
AreShaped limit room start limited lanes =
    (c : ℕ) (d : LaneLists) → c < length lanes
    → SameShape (new_lane limit room start (has limited c)) (slice_index_or lanes c d)

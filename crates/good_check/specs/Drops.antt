-- The drops of a lane, one after the other.
use Rattle.std.specs.Prelude.{ℕ, ◌+◌, ◌≤◌, ◌≡◌, Bool, false, ◌&&◌, List, [], Option, Some, length}
use Rattle.std.specs.Prelude.{nat_le, slice_get}
use Rattle.steer_base.specs.Lanes.{LaneLists}
use Rattle.steer_base.specs.declared.put.LaneDrop.{LaneDrop}
use Rattle.history.specs.declared.lane_list.LaneList.{LaneList}

-- whether a drop counts no more than its lane has in the end
abbrev pub is_within : LaneList → LaneDrop → Bool
is_within lane d = nat_le d.accepted (length lane.accepted) && nat_le d.pulled lane.pulled

-- Along these drops neither count falls.
abbrev pub NeverFall : List LaneDrop → Type 0
NeverFall drops =
    (k : ℕ) (d e : LaneDrop) → slice_get drops k ≡ Some d → slice_get drops (k + 1) ≡ Some e
    → (d.accepted ≤ e.accepted) × (d.pulled ≤ e.pulled)

-- a lane that accepted and dropped these packets, with these offers; its other fields do not matter
abbrev pub offered : List ℕ → List LaneDrop → List (Option ℕ) → LaneLists
offered accepted drops offers =
    record {
      accepted = accepted;
      offers = offers;
      drops = drops;
      pulled = 0;
      limit = 0;
      room = 0;
      start = 0;
      limited = false;
    }

-- a lane of a history as a backlog with these limits
abbrev pub limited_lane : ℕ → Bool → LaneList → LaneLists
limited_lane limit limited lane =
    record {
      accepted = lane.accepted;
      offers = [];
      drops = lane.drops;
      pulled = lane.pulled;
      limit = limit;
      room = 0;
      start = 0;
      limited = limited;
    }

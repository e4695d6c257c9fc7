-- Lanes as they were found, compared with the lists that are left of them.
use Rattle.std.specs.Prelude.{◌≡◌, ℕ, ◌<◌, ◌≤◌, []}
use Rattle.steer_base.specs.Lanes.{LaneLists}
use Rattle.steer_base.specs.Sets.{has}
use Rattle.history.specs.Lists.{lane_at}
use Rattle.history.specs.declared.lane_list.LaneList.{LaneList}
use Rattle.hop_rule.specs.Fronts.{Front}
use Rattle.hop_rule.specs.declared.sizes.BoardSizes.{BoardSizes}
use Rattle.board_api.specs.declared.lists.BoardLists.{BoardLists}

-- The lane x is an earlier state of the lane y: its lists are fronts of those of y.
pub record IsFrontOf (x : LaneLists) (y : LaneList) : Type 0 where
  pub accepted : Front x.accepted y.accepted
  pub drops : Front x.drops y.drops
  pub pulled : x.pulled ≤ y.pulled

-- x is the middle lane l of a board at some time: it has the board's limits.
pub record IsLaneOf (about : BoardSizes) (l : ℕ) (x : LaneLists) : Type 0 where
  pub within : l < about.lanes
  pub limit : x.limit ≡ about.limit
  pub room : x.room ≡ about.room
  pub start : x.start ≡ about.start
  pub limited : x.limited ≡ has about.limited l

-- What is left of the middle lane l, as a lane with the board's limits and without its offers.
abbrev pub as_lane : BoardSizes → BoardLists → ℕ → LaneLists
as_lane about lists l =
    record {
      accepted = (lane_at lists.lanes l).accepted;
      offers = [];
      drops = (lane_at lists.lanes l).drops;
      pulled = (lane_at lists.lanes l).pulled;
      limit = about.limit;
      room = about.room;
      start = about.start;
      limited = has about.limited l;
    }

-- A good history's drops: each by a full backlog or by the flow limit (kernel scaling chapter,
-- section RPS flow limit).
use Rattle.std.specs.Prelude.{ℕ, ◌+◌, ◌≤◌, ◌≡◌, [], Some, length, slice_get}
use Rattle.std.specs.List.{All}
use Rattle.steer_base.specs.Lanes.{LaneLists}
use Rattle.steer_base.specs.Sets.{has}
use Rattle.steer_base.specs.declared.put.LaneDrop.{LaneDrop}
use Rattle.backlog.specs.Offers.{AllExplained}
use Rattle.history.specs.Lists.{lane_at}
use Rattle.history.specs.declared.history.History.{History}
use Rattle.history.specs.declared.lane_list.LaneList.{LaneList}
use Rattle.steer_model.specs.Good.Inputs.{Input, setup_in}
use Rattle.steer_model.specs.State.Setup.{packet_hash}

-- ---- clause 6

-- a processor's lane of a history as a backlog, with the plan's limits
abbrev pub as_lane : Input → History → ℕ → LaneLists
as_lane i h c =
    record {
      accepted = (lane_at h.lanes c).accepted;
      offers = [];
      drops = (lane_at h.lanes c).drops;
      pulled = (lane_at h.lanes c).pulled;
      limit = i.plan.backlog;
      room = length i.packets;
      start = h.start;
      limited = has i.plan.limited c;
    }

-- Along the drops of a lane neither of their counts falls, and none is over the final one.
pub record DropsRise (l : LaneList) : Type 0 where
  pub accepted : All (λ d. d.accepted ≤ length l.accepted) l.drops
  pub pulled : All (λ d. d.pulled ≤ l.pulled) l.drops
  pub rise : (k : ℕ) (d e : LaneDrop)
      → slice_get l.drops k ≡ Some d → slice_get l.drops (k + 1) ≡ Some e
      → (d.accepted ≤ e.accepted) × (d.pulled ≤ e.pulled)

-- Each drop of a lane has the cause that its counts and the offers before it give.
pub record DropsAreExplained (i : Input) (h : History) : Type 0 where
  pub causes : (c : ℕ) → AllExplained (packet_hash (setup_in i)) (as_lane i h c)
  pub counts : All DropsRise h.lanes

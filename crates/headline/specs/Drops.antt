-- Why a packet was dropped (kernel scaling chapter, section RPS flow limit).
use Rattle.std.specs.Prelude.{ℕ, ◌-◌, ◌≤◌, ◌≡◌, List, Some, map, take}
use Rattle.std.specs.Prelude.{length}
use Rattle.history.specs.Lists.{lane_at, packet_at}
use Rattle.history.specs.declared.history.History.{History}
use Rattle.history.specs.declared.lane_list.LaneList.{LaneList}
use Rattle.steer_base.specs.Drops.{bucket_of, drop_cause, offers_of}
use Rattle.steer_base.specs.Sets.{has}
use Rattle.steer_base.specs.declared.put.LaneDrop.{LaneDrop}
use Rattle.steer_model.specs.Good.Inputs.{Input}

-- The packets that were put to a processor before its drop j, in the order of their puts.
abbrev pub offered_before : LaneList → ℕ → LaneDrop → List ℕ
offered_before lane j d = offers_of (take d.accepted lane.accepted) (take j lane.drops)

-- Drop j of processor c: its cause, a full backlog or the flow limit, is the one that the two
-- counts which it keeps give, with the packets that were put there before it. The counts are no
-- more than those of the processor in the end.
pub record IsDroppedFor (i : Input) (h : History) (c j : ℕ) (d : LaneDrop) : Type 0 where
  pub cause : drop_cause (has i.plan.limited c) i.plan.backlog (d.accepted - d.pulled)
      (map (λ y. bucket_of (packet_at i.packets y).hash) (offered_before (lane_at h.lanes c) j d))
      (packet_at i.packets d.id).hash
      ≡ Some d.cause
  pub accepted : d.accepted ≤ length (lane_at h.lanes c).accepted
  pub pulled : d.pulled ≤ (lane_at h.lanes c).pulled

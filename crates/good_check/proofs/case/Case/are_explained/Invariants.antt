use Rattle.std.proofs.Common.{ℕ, ◌≡◌, ◌≤◌, ◌<◌, ◌+◌, Some, length, slice_get, take}
use Rattle.steer_base.specs.Sets.{has}
use Rattle.steer_base.specs.declared.put.LaneDrop.{LaneDrop}
use Rattle.backlog.specs.Offers.{AreOffers, IsExplained}
use Rattle.steer_model.specs.State.Setup.{packet_hash}
use Rattle.good_check.specs.Drops.{limited_lane, offered}
use Rattle.good_check.proofs.case.Case.are_explained.Given as goal

abbrev pub invariant-loop-fallen : goal.invariant-loop-fallen
invariant-loop-fallen l = record {
  noted : l.noted ≤ length l.lane.accepted;
  offers : AreOffers (packet_hash l.self.given.now)
      (offered (take l.noted l.lane.accepted) (take l.fallen-index l.lane.drops) l.offers.items);
  count : length l.offers.items ≡ l.noted + l.fallen-index;
  room : l.offers.room ≡ length l.lane.accepted + length l.lane.drops;
  next : (d : LaneDrop) → slice_get l.lane.drops l.fallen-index ≡ Some d → l.noted ≤ d.accepted;
  explained : (k : ℕ) (d : LaneDrop) → k < l.fallen-index → slice_get l.lane.drops k ≡ Some d
      → IsExplained (packet_hash l.self.given.now)
      (limited_lane l.self.plan.now.backlog (has l.self.plan.now.limited l.cpu) l.lane) k d;
}

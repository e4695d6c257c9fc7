use Rattle.std.proofs.Common.{◌≡◌, ◌+◌, ◌-◌, List, length, take}
use Rattle.steer_base.specs.declared.put.LaneDrop.{LaneDrop}
use Rattle.backlog.specs.Offers.{AreOffers}
use Rattle.steer_model.specs.State.Setup.{packet_hash}
use Rattle.good_check.specs.Drops.{offered}
use Rattle.good_check.proofs.case.Case.note_accepted.Given as goal

abbrev pub invariant-loop-at : goal.invariant-loop-at
invariant-loop-at l = record {
  offers : (drops : List LaneDrop)
      → AreOffers (packet_hash l.self.given.now)
      (offered (take l.from l.accepted) drops l.initial.offers.items)
      → AreOffers (packet_hash l.self.given.now)
      (offered (take l.at l.accepted) drops l.offers.items);
  count : length l.offers.items ≡ length l.initial.offers.items + (l.at - l.from);
  room : l.offers.room ≡ l.initial.offers.room;
}

use Rattle.history.proofs.BoundLemmas.{inboxes-apart}
use Rattle.history.proofs.laws.a_packet_has_one_place.Goals as goal

pub returns : goal.returns
returns c packets apps h steered delivered told = record {
  lanes = steered.once;
  inboxes = inboxes-apart packets apps h delivered;
  delivered = λ a x inbox.
      let accepted = delivered.accepted a x inbox in
      (accepted.0, told a accepted.0 x inbox accepted.1);
}

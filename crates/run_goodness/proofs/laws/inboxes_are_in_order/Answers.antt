use Rattle.hop_delivery.proofs.Orders.ReceiveSettingLemmas.{receive_steers}
use Rattle.hop_delivery.proofs.Closings.FlowLemmas.{flows_in_order}
use Rattle.run_goodness.specs.Laws.{InboxesFollow}
use Rattle.run_goodness.proofs.Names.{own_of, lists_of, at_closings, receive_queues}
use Rattle.run_goodness.proofs.Ends.{inboxes_follow}
use Rattle.run_goodness.proofs.laws.inboxes_are_in_order.Goals as goal

pub returns : goal.returns
returns c =
    at_closings InboxesFollow
    (λ about order fit lawful.
    inboxes_follow about (own_of order) (lists_of about order)
    (flows_in_order about order lawful fit)
    (λ i. receive_steers (receive_queues i) about.lanes))

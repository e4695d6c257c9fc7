use Rattle.hop_delivery.proofs.Closings.FlowLemmas.{flows_are_in_order}
use Rattle.hop_delivery.proofs.closing_laws.flows_of_closings_are_in_order.Goals as goal

pub returns : goal.returns
returns c = flows_are_in_order

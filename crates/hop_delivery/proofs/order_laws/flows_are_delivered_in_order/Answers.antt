use Rattle.hop_delivery.proofs.Orders.DeliveryLemmas.{delivers_in_order}
use Rattle.hop_delivery.proofs.order_laws.flows_are_delivered_in_order.Goals as goal

pub returns : goal.returns
returns c = delivers_in_order

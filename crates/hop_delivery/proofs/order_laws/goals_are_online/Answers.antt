use Rattle.hop_delivery.proofs.Orders.ReceiveSettingLemmas.{goals_are_online}
use Rattle.hop_delivery.proofs.order_laws.goals_are_online.Goals as goal

pub returns : goal.returns
returns c = goals_are_online

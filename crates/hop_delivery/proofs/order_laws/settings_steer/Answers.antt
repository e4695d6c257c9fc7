use Rattle.hop_delivery.proofs.Orders.ReceiveSettingLemmas.{receive_steers}
use Rattle.hop_delivery.proofs.Orders.TransmitSettingLemmas.{transmit_steers}
use Rattle.hop_delivery.proofs.order_laws.settings_steer.Goals as goal

pub returns-clause-received : goal.returns-clause-received
returns-clause-received c = receive_steers

pub returns-clause-sent : goal.returns-clause-sent
returns-clause-sent c = transmit_steers

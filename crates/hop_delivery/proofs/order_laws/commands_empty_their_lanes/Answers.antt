use Rattle.hop_delivery.proofs.Orders.CommandLemmas.{received_commands_empty, sent_commands_empty}
use Rattle.hop_delivery.proofs.order_laws.commands_empty_their_lanes.Goals as goal

pub returns-clause-received : goal.returns-clause-received
returns-clause-received c = received_commands_empty

pub returns-clause-sent : goal.returns-clause-sent
returns-clause-sent c = sent_commands_empty

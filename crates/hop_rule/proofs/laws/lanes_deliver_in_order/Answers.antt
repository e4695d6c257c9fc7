use Rattle.hop_rule.proofs.Heads.{delivered_as_accepted, delivered_in_order}
use Rattle.hop_rule.proofs.laws.lanes_deliver_in_order.Goals as goal

pub returns-clause-packets : goal.returns-clause-packets
returns-clause-packets c = delivered_as_accepted

pub returns-clause-places : goal.returns-clause-places
returns-clause-places c = delivered_in_order

use Rattle.hop_rule.proofs.Tails.{loaded_tails_are_accepted, loaded_tails_are_delivered}
use Rattle.hop_rule.proofs.laws.loaded_tails_count_packets.Goals as goal

pub returns-clause-accepted : goal.returns-clause-accepted
returns-clause-accepted c = loaded_tails_are_accepted

pub returns-clause-delivered : goal.returns-clause-delivered
returns-clause-delivered c = loaded_tails_are_delivered

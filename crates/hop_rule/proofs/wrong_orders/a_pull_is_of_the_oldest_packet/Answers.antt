use Rattle.hop_rule.proofs.Unlawful.{pulls_the_newest}
use Rattle.hop_rule.proofs.wrong_orders.a_pull_is_of_the_oldest_packet.Goals as goal

pub returns : goal.returns
returns c = pulls_the_newest

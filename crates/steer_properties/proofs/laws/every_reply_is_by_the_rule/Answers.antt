use Rattle.steer_properties.proofs.Histories.HistoryInvariant.{replies_always_ruled}
use Rattle.steer_properties.proofs.laws.every_reply_is_by_the_rule.Goals as goal

pub returns : goal.returns
returns c = replies_always_ruled

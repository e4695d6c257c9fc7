use Rattle.hop_rule.proofs.Heads.{each_retire_follows, heads_follow_deliveries}
use Rattle.hop_rule.proofs.laws.heads_follow_deliveries.Goals as goal

pub returns-clause-counts : goal.returns-clause-counts
returns-clause-counts c = heads_follow_deliveries

pub returns-clause-step : goal.returns-clause-step
returns-clause-step c = each_retire_follows

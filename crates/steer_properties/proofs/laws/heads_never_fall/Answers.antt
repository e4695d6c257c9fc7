use Rattle.steer_properties.proofs.Histories.HistoryInvariant.{heads_always_rise}
use Rattle.steer_properties.proofs.laws.heads_never_fall.Goals as goal

pub returns : goal.returns
returns c = heads_always_rise

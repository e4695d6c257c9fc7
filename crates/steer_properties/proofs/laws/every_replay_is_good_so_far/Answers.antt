use Rattle.steer_properties.proofs.Histories.HistoryInvariant.{always_good_so_far}
use Rattle.steer_properties.proofs.laws.every_replay_is_good_so_far.Goals as goal

pub returns : goal.returns
returns c = always_good_so_far

use Rattle.steer_properties.proofs.Histories.HistoryInvariant.{histories_always_of_input}
use Rattle.steer_properties.proofs.laws.every_history_is_of_its_input.Goals as goal

pub returns : goal.returns
returns c = histories_always_of_input

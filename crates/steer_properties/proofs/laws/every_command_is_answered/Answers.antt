use Rattle.steer_properties.proofs.Histories.HistoryInvariant.{commands_always_answered}
use Rattle.steer_properties.proofs.laws.every_command_is_answered.Goals as goal

pub returns : goal.returns
returns c = commands_always_answered

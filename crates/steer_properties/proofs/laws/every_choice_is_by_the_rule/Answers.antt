use Rattle.steer_properties.proofs.Histories.HistoryInvariant.{choices_always_ruled}
use Rattle.steer_properties.proofs.laws.every_choice_is_by_the_rule.Goals as goal

pub returns : goal.returns
returns c = choices_always_ruled

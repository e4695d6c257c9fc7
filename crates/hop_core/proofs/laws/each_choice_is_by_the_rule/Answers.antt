use Rattle.hop_core.proofs.Choices.{choice_is_by_the_rule, choices_stay}
use Rattle.hop_core.proofs.laws.each_choice_is_by_the_rule.Goals as goal

pub returns-clause-rule : goal.returns-clause-rule
returns-clause-rule c = choice_is_by_the_rule

pub returns-clause-stay : goal.returns-clause-stay
returns-clause-stay c = choices_stay

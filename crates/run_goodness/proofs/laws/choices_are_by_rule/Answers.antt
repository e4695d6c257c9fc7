use Rattle.board_api.proofs.OwnVisits.{visit_numbers_rise}
use Rattle.run_coupling.specs.Laws.Choices.{ChoicesFollow}
use Rattle.run_goodness.proofs.Names.{own_of, lists_of, at_closings}
use Rattle.run_goodness.proofs.Turns.ChoiceLemmas.{choices_of_closing}
use Rattle.run_goodness.proofs.laws.choices_are_by_rule.Goals as goal

pub returns : goal.returns
returns c =
    at_closings ChoicesFollow
    (λ about order fit lawful.
    choices_of_closing about (own_of order) (lists_of about order)
    (visit_numbers_rise about order fit lawful))

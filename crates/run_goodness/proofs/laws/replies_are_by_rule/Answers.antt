use Rattle.board_api.proofs.OwnVisits.{visit_numbers_rise}
use Rattle.run_coupling.specs.Laws.Replies.{RepliesFollow}
use Rattle.run_goodness.proofs.Names.{own_of, lists_of, at_closings}
use Rattle.run_goodness.proofs.Turns.ReplyLemmas.{replies_of_closing}
use Rattle.run_goodness.proofs.laws.replies_are_by_rule.Goals as goal

pub returns : goal.returns
returns c =
    at_closings RepliesFollow
    (λ about order fit lawful.
    replies_of_closing about (own_of order) (lists_of about order)
    (visit_numbers_rise about order fit lawful))

use Rattle.board_api.proofs.OwnHeads.{heads_rise}
use Rattle.run_goodness.specs.Laws.{HeadsFollow}
use Rattle.run_goodness.proofs.Names.{own_of, lists_of, at_closings, lanes_are_in_turn}
use Rattle.run_goodness.proofs.Turns.HeadLemmas.{heads_of_closing}
use Rattle.run_goodness.proofs.laws.heads_are_rising.Goals as goal

pub returns : goal.returns
returns c =
    at_closings HeadsFollow
    (λ about order fit lawful.
    heads_of_closing about (own_of order) (lists_of about order) fit
    (heads_rise about order lawful) (lanes_are_in_turn about order lawful))

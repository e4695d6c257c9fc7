use Rattle.board_api.proofs.OwnHeads.{heads_are_below, heads_rise}
use Rattle.run_goodness.specs.Laws.{BusyLanesAreBusy}
use Rattle.run_goodness.proofs.Names.{own_of, lists_of, at_closings, lanes_are_in_turn}
use Rattle.run_goodness.proofs.Tries.AnswerLemmas.{busy_lanes}
use Rattle.run_goodness.proofs.laws.busy_lanes_are_busy.Goals as goal

pub returns : goal.returns
returns c =
    at_closings BusyLanesAreBusy
    (λ about order fit lawful.
    busy_lanes about (own_of order) (lists_of about order) fit
    (heads_rise about order lawful) (heads_are_below about order lawful)
    (lanes_are_in_turn about order lawful))

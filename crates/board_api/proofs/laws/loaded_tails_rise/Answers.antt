use Rattle.board_api.specs.Laws.Heads.{OutTailsRise, TailsRise}
use Rattle.board_api.proofs.Endings.{at_closings}
use Rattle.board_api.proofs.OwnTails.{out_tails_rise, tails_rise}
use Rattle.board_api.proofs.laws.loaded_tails_rise.Goals as goal

pub returns-clause-middle : goal.returns-clause-middle
returns-clause-middle c =
    at_closings TailsRise (λ about order fit lawful. tails_rise about order lawful)

pub returns-clause-out : goal.returns-clause-out
returns-clause-out c =
    at_closings OutTailsRise (λ about order fit lawful. out_tails_rise about order lawful)

use Rattle.board_api.specs.Laws.Puts.{AcceptedWerePut, DropsWerePut, PutsKeepOrder, PutsStand}
use Rattle.board_api.specs.Laws.Puts.{PutsTakeTurns}
use Rattle.board_api.proofs.Endings.{at_closings}
use Rattle.board_api.proofs.OwnPuts.{accepted_were_put, drops_were_put, puts_keep_order, puts_stand}
use Rattle.board_api.proofs.OwnPuts.{puts_take_turns}
use Rattle.board_api.proofs.laws.puts_and_positions_agree.Goals as goal

pub returns-clause-stand : goal.returns-clause-stand
returns-clause-stand c =
    at_closings PutsStand (λ about order fit lawful. puts_stand about order lawful)

pub returns-clause-turns : goal.returns-clause-turns
returns-clause-turns c =
    at_closings PutsTakeTurns (λ about order fit lawful. puts_take_turns about order lawful)

pub returns-clause-order : goal.returns-clause-order
returns-clause-order c =
    at_closings PutsKeepOrder (λ about order fit lawful. puts_keep_order about order lawful)

pub returns-clause-accepted : goal.returns-clause-accepted
returns-clause-accepted c =
    at_closings AcceptedWerePut (λ about order fit lawful. accepted_were_put about order lawful)

pub returns-clause-dropped : goal.returns-clause-dropped
returns-clause-dropped c =
    at_closings DropsWerePut (λ about order fit lawful. drops_were_put about order lawful)

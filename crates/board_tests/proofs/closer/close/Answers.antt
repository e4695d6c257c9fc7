use Rattle.board_tests.proofs.rounds.Calls.{has_not_shut, has_shut}
use Rattle.board_tests.specs.Stands.{no_hand}
use Rattle.board_tests.proofs.closer.close.Goals as goal

pub returns-in-Ok-clause-closed : goal.returns-in-Ok-clause-closed
returns-in-Ok-clause-closed g c _ =
    has_shut (g.B.Board.view c.args.board.now) c.args.seat.now.number no_hand c.args.seat.now
    c.try_close.new.seat c.requires.stands c.in-Ok.ensures

pub returns-in-Inside-clause-open : goal.returns-in-Inside-clause-open
returns-in-Inside-clause-open g c _ =
    has_not_shut (g.B.Board.view c.args.board.now) c.args.seat.now.number no_hand
    c.args.seat.now c.try_close.new.seat c.in-Inside.n c.requires.stands c.in-Inside.ensures

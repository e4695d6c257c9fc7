use Rattle.board_tests.proofs.rounds.Calls.{counted}
use Rattle.board_tests.specs.Stands.{no_hand}
use Rattle.board_tests.proofs.rounds.tail_of.Goals as goal

pub returns : goal.returns
returns g c =
    counted (g.B.Board.view c.args.board.now) c.args.seat.now.number no_hand c.args.seat.now
    c.tail.new.seat c.args.lane c.tail.result c.requires.stands c.tail.ensures

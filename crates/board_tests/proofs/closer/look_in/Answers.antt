use Rattle.board_tests.proofs.rounds.Calls.{entered, has_left}
use Rattle.board_tests.specs.Stands.{no_hand}
use Rattle.board_tests.proofs.closer.look_in.Goals as goal

pub returns : goal.returns
returns g c =
    let board = g.B.Board.view c.args.board.now in
    let number = c.args.seat.now.number in
    has_left board number no_hand c.enter.new.seat c.leave.new.seat
    (entered board number no_hand c.args.seat.now c.enter.new.seat c.requires.stands
    c.in-Ok.ensures.step)
    c.leave.ensures

use Rattle.board_tests.proofs.crew.Crews.{new_rest}
use Rattle.board_tests.proofs.largest.unused.Goals as goal

pub close_board-requires-clause-rest : goal.close_board-requires-clause-rest
close_board-requires-clause-rest c =
    new_rest c.in_ok-board.board.sizes c.in_ok-board.board.table c.args.seats
    c.in_ok-board.all.items c.in_ok-board.ensures.given

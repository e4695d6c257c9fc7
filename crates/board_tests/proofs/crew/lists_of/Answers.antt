use Rattle.board_tests.proofs.crew.Crews.{all_rest}
use Rattle.board_tests.proofs.crew.lists_of.Goals as goal

pub close_board-requires-clause-rest : goal.close_board-requires-clause-rest
close_board-requires-clause-rest c = all_rest c.args.board c.args.seats.items c.requires.seats

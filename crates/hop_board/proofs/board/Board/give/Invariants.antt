use Rattle.hop_board.proofs.Names.{step_in, is_told}
use Rattle.hop_board.proofs.board.Board.give.Given as goal

abbrev pub ghosts-give_as : goal.ghosts-give_as
ghosts-give_as a =
    record { step = step_in a.release; says = is_told a.self.now.sizes a.release a.lane }

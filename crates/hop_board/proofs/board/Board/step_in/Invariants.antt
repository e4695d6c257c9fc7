use Rattle.hop_board.specs.Makings.{FindsOpen, entering}
use Rattle.hop_board.proofs.board.Board.step_in.Given as goal

abbrev pub ghosts-add_as : goal.ghosts-add_as
ghosts-add_as a =
    record { makes = entering; says = FindsOpen a.self.now.sizes a.seat.now.number }

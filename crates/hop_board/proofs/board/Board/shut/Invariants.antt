use Rattle.hop_board.specs.Makings.{IsBusy, closing}
use Rattle.hop_board.proofs.board.Board.shut.Given as goal

abbrev pub ghosts-exchange_as : goal.ghosts-exchange_as
ghosts-exchange_as a = record { makes = closing a.old; says = IsBusy a.self.now.sizes a.old }

use Rattle.hop_board.specs.Makings.{loaded}
use Rattle.hop_board.proofs.board.Board.load.Given as goal

abbrev pub ghosts-load_as : goal.ghosts-load_as
ghosts-load_as a = record { makes = loaded a.word; says = λ n. Unit {0} }

use Rattle.hop_board.proofs.Acts.{raised}
use Rattle.hop_board.proofs.board.Board.raise_head.Given as goal

abbrev pub ghosts-add_as : goal.ghosts-add_as
ghosts-add_as a = record { makes = raised a.word; says = λ n. Unit {0} }

use Rattle.hop_board.proofs.Acts.{setting_step}
use Rattle.hop_board.proofs.board.Board.change.Given as goal

abbrev pub ghosts-store_as : goal.ghosts-store_as
ghosts-store_as a = record { makes = setting_step a.word; says = λ n. Unit {0} }

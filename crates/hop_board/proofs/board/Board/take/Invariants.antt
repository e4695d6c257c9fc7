use Rattle.hop_board.proofs.board.Board.take.Given as goal

abbrev pub ghosts-take_as : goal.ghosts-take_as
ghosts-take_as a = record { lane = a.lane }

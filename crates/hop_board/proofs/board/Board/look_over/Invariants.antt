use Rattle.hop_board.proofs.Looks.{LooksBelow}
use Rattle.hop_board.proofs.board.Board.look_over.Given as goal

abbrev pub invariant-loop-lane : goal.invariant-loop-lane
invariant-loop-lane l = LooksBelow l.lanes l.lane l.initial.seat l.seat

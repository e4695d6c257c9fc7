use Rattle.board_tests.specs.Stands.{SeatIsOutside}
use Rattle.board_tests.proofs.worker.work.Given as goal

abbrev pub invariant-loop-round : goal.invariant-loop-round
invariant-loop-round g l = SeatIsOutside (g.B.Board.view l.fn.board) l.number l.seat

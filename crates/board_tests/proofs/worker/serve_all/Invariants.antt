use Rattle.board_tests.specs.Stands.{SeatIsOutside}
use Rattle.board_tests.proofs.worker.serve_all.Given as goal

abbrev pub invariant-loop-turn : goal.invariant-loop-turn
invariant-loop-turn g l = SeatIsOutside (g.B.Board.view l.fn.board) l.number l.seat

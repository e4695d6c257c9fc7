use Rattle.board_tests.specs.Stands.{SeatIsOutside}
use Rattle.board_tests.proofs.worker.offer_soon.Given as goal

abbrev pub invariant-loop : goal.invariant-loop
invariant-loop g l = SeatIsOutside (g.B.Board.view l.fn.board) l.fn.seat.number l.seat

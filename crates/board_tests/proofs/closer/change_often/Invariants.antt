use Rattle.std.proofs.Common.{◌≤◌}
use Rattle.board_tests.specs.Stands.{SeatIsOutside, opened_by}
use Rattle.board_tests.proofs.closer.change_often.Given as goal

abbrev pub invariant-loop-round : goal.invariant-loop-round
invariant-loop-round g l =
    record {
      stands : SeatIsOutside (g.B.Board.view l.fn.board) l.fn.seat.number l.seat;
      few : opened_by l.seat ≤ l.round;
    }

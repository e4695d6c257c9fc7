use Rattle.board_tests.specs.Stands.{HasTaken}
use Rattle.std.proofs.Common.{Some}
use Rattle.board_tests.proofs.rounds.give_soon.Given as goal

abbrev pub invariant-loop : goal.invariant-loop
invariant-loop g l =
    HasTaken (g.B.Board.view l.fn.board) l.fn.seat.number l.fn.lane (Some l.fn.id) l.seat

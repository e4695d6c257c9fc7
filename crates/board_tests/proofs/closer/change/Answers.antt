use Rattle.std.proofs.Common.{refl}
use Rattle.hop_rule.specs.Gates.{outside}
use Rattle.board_tests.proofs.rounds.Calls.{by_number, has_opened}
use Rattle.board_tests.specs.Stands.{no_hand}
use Rattle.board_tests.proofs.closer.change.Goals as goal

pub returns-clause-stands : goal.returns-clause-stands
returns-clause-stands g c =
    let board = g.B.Board.view c.args.board.now in
    let number = c.args.seat.now.number in
    let after = c.change_behind-has_changed.new.seat in
    has_opened board number no_hand after c.open_gate.new.seat
    (by_number board c.close.new.seat.number number outside 1 no_hand after
    (c.if-not-close.ensures.closed refl).number_is c.change_behind-has_changed.ensures.stands)
    c.open_gate.ensures

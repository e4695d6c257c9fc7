use Rattle.std.proofs.Common.{All, sym, subst}
use Rattle.hand_tests.specs.Benches.{IsDone}
use Rattle.hand_tests.proofs.hands.Resting.{all_done}
use Rattle.hand_tests.proofs.hands.add_seat.Goals as goal

pub returns-clause-seats : goal.returns-clause-seats
returns-clause-seats c =
    subst (All (IsDone c.args.board.now)) (sym c.in-Ok.ensures.items)
    (all_done c.args.board.now c.args.seats.now.items c.args.seat c.requires.seats
    c.requires.seat)

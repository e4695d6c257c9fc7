use Rattle.hand_tests.proofs.hands.Resting.{worker_done}
use Rattle.hand_tests.proofs.hands.seat_of.Goals as goal

pub returns : goal.returns
returns g c =
    let w = c.args.worker in
    worker_done c.args.board.now c.args.shared.now.given w.drain w.drain.lane w.seat
    c.requires.rests c.requires.drain_is c.in-None.is

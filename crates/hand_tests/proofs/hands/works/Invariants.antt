use Rattle.hand_tests.specs.Benches.{IsWorker}
use Rattle.hand_tests.proofs.hands.works.Given as goal

abbrev pub invariant-loop-act : goal.invariant-loop-act
invariant-loop-act g l =
    IsWorker l.fn.board l.fn.shared l.worker.poller l.worker.drain l.worker.seat l.worker.hint

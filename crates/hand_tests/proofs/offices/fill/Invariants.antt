use Rattle.hand_tests.specs.Benches.{IsWorker}
use Rattle.hand_tests.proofs.offices.fill.Given as goal

abbrev pub invariant-loop : goal.invariant-loop
invariant-loop g l =
    IsWorker l.fn.board l.fn.shared l.worker.poller l.worker.drain l.worker.seat l.worker.hint

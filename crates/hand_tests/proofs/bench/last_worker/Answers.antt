use Rattle.hand_tests.proofs.bench.last_worker.Goals as goal

pub worker_of-requires-clause-poller : goal.worker_of-requires-clause-poller
worker_of-requires-clause-poller g c = c.in_ok-poller.ensures.is c.args.shared.now.given.cpus

pub worker_of-requires-clause-drain : goal.worker_of-requires-clause-drain
worker_of-requires-clause-drain g c = c.new-drain.ensures.is c.args.shared.now.given

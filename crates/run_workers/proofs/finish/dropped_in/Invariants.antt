use Rattle.run_workers.specs.Tally.{dropped_in}
use Rattle.run_workers.proofs.Names.{◌≤◌, take}
use Rattle.run_workers.proofs.finish.dropped_in.Given as goal

abbrev pub invariant-loop-poller : goal.invariant-loop-poller
invariant-loop-poller l = l.sum ≤ dropped_in (take l.poller-index l.pollers)

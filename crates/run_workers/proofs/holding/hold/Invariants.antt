use Rattle.run_workers.proofs.Names.{Serves, no_lane}
use Rattle.run_workers.proofs.holding.hold.Given as goal

abbrev pub invariant-loop : goal.invariant-loop
invariant-loop g l =
    (goal.iterator-loop g).can_next l.iterator' × (goal.iterator-loop g).is_finite l.iterator'
    × Serves no_lane l.fn.seat l.seat

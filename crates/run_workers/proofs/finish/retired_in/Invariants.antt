use Rattle.run_workers.specs.Tally.{retired_in}
use Rattle.run_workers.proofs.Names.{◌≤◌, take}
use Rattle.run_workers.proofs.finish.retired_in.Given as goal

abbrev pub invariant-loop-drain : goal.invariant-loop-drain
invariant-loop-drain l = l.sum ≤ retired_in (take l.drain-index l.drains)

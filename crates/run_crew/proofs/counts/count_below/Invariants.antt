use Rattle.run_crew.specs.Counts.{counted}
use Rattle.run_crew.proofs.Names.{◌≡◌, ◌≤◌, ◌*◌, sum_below}
use Rattle.run_crew.proofs.counts.count_below.Given as goal

abbrev pub invariant-loop-actor : goal.invariant-loop-actor
invariant-loop-actor l = record {
  value : l.sum ≡ sum_below (counted l.fn.count l.fn.crew) l.actor;
  few : l.sum ≤ l.actor * 4294967295;
}

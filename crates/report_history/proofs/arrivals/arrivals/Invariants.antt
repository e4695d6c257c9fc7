use Rattle.std.proofs.Common.{◌≡◌, ◌++◌, drop}
use Rattle.report_history.specs.Shown.{arrivals_from}
use Rattle.report_history.proofs.arrivals.arrivals.Given as goal

abbrev pub invariant-loop-x : goal.invariant-loop-x
invariant-loop-x l =
    l.arrivals.items ++ arrivals_from l.x (drop l.x l.seen) ≡ arrivals_from 0 l.seen

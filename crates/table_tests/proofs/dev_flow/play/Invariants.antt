use Rattle.std.proofs.Common.{◌≡◌}
use Rattle.table_tests.proofs.dev_flow.play.Given as goal

abbrev pub invariant-loop-at : goal.invariant-loop-at
invariant-loop-at g l = l.table.exact ≡ l.initial.table.exact

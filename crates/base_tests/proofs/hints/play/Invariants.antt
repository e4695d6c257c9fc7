use Rattle.std.proofs.Common.{◌≡◌}
use Rattle.base_tests.proofs.hints.play.Given as goal

abbrev pub invariant-loop-round : goal.invariant-loop-round
invariant-loop-round l = l.seat.table ≡ l.hints.table

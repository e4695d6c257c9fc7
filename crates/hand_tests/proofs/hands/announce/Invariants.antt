use Rattle.std.specs.Prelude.{◌≡◌}
use Rattle.hand_tests.proofs.hands.announce.Given as goal

abbrev pub invariant-loop-n : goal.invariant-loop-n
invariant-loop-n g l = l.wire.table ≡ l.fn.shared.hints.table

use Rattle.std.proofs.Common.{ℕ, ◌≡◌, take}
use Rattle.rule_check.specs.Pairs.{has_pair}
use Rattle.good_check.specs.Wants.{was_written}
use Rattle.good_check.proofs.wants.all_writes.Given as goal

abbrev pub invariant-loop-list : goal.invariant-loop-list
invariant-loop-list l =
    (n m : ℕ) → has_pair l.set n m ≡ was_written n m (take l.list-index l.writes)

use Rattle.std.proofs.Common.{ℕ, ◌≡◌, take}
use Rattle.std.specs.Prelude.{◌||◌}
use Rattle.std.specs.List.{list_any}
use Rattle.rule_check.specs.Pairs.{has_pair}
use Rattle.good_check.specs.Wants.{is_write_of}
use Rattle.good_check.proofs.wants.note_writes.Given as goal

abbrev pub invariant-loop-write : goal.invariant-loop-write
invariant-loop-write l = (n m : ℕ) → has_pair l.set n m
    ≡ (has_pair l.initial.set n m || list_any (is_write_of n m) (take l.write-index l.writes))

use Rattle.std.proofs.Common.{◌≡◌, take}
use Rattle.steer_core.proofs.actors.copies.taken_counts.Given as goal

abbrev pub invariant-loop-p : goal.invariant-loop-p
invariant-loop-p l = l.counts.items ≡ take l.p l.hop.taken

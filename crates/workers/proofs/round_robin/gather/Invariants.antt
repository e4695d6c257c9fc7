use Rattle.std.specs.Vec.{vec_capacity}
use Rattle.workers.proofs.Names.{◌≤◌, length}
use Rattle.workers.proofs.RoundRobinLemmas.{AreLeft}
use Rattle.workers.proofs.round_robin.gather.Given as goal

abbrev pub invariant-loop-left : goal.invariant-loop-left
invariant-loop-left g l = record {
  are : AreLeft (λ hand. hand.items) g.items l.hands.items l.all.items l.left;
  room : length g.items ≤ vec_capacity l.all;
}

abbrev pub decreases-loop-left : goal.decreases-loop-left
decreases-loop-left g l = l.left

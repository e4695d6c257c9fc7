use Rattle.std.proofs.Common.{replicate}
use Rattle.workers.proofs.Names.{◌≡◌, [], map}
use Rattle.workers.proofs.round_robin.empty_hands.Given as goal

abbrev pub invariant-loop : goal.invariant-loop
invariant-loop g l = map (λ hand. hand.items) l.hands.items ≡ replicate l.counter []

use Rattle.workers.proofs.Names.{◌++◌, ◌∷◌, [], refl}
use Rattle.workers.proofs.TakenLemmas.{taken-part, taken-whole}
use Rattle.workers.proofs.parts.take_apart.Goals as goal

pub loop-worker-preserved : goal.loop-worker-preserved
loop-worker-preserved c =
    let inv = c.loop-worker.invariant in
    let x = c.in-Some.field-0 in
    record {
      front = inv.front ++ x ∷ [];
      whole = taken-whole inv.front _ _ _ x c.in-Some.ensures.items inv.whole;
      rx = taken-part (λ y. y.seats.rx) inv.front x _ _ _ _ inv.rx c.push.ensures refl;
      tx = taken-part (λ y. y.seats.tx) inv.front x _ _ _ _ inv.tx c.push-in-Some.ensures refl;
      hints =
          taken-part (λ y. y.seats.hint) inv.front x _ _ _ _ inv.hints
          c.push-in-Some-2.ensures refl;
      pollers =
          taken-part (λ y. y.worker.pollers) inv.front x _ _ _ _ inv.pollers
          c.push-in-Some-3.ensures refl;
      servers =
          taken-part (λ y. y.worker.servers) inv.front x _ _ _ _ inv.servers
          c.push-in-Some-4.ensures refl;
    }

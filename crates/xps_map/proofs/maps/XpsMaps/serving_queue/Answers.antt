use Rattle.std.proofs.Common.{ℕ, arith, take, subst, Option, IfSome}
use Rattle.xps_map.proofs.MapsLemmas.{beyond_queues, far_queue, members-serving}
use Rattle.xps_map.specs.Inverses.{Inverts, serves_queue_of}
use Rattle.xps_map.specs.declared.inverse.Inverse.{Inverse}
use Rattle.xps_map.proofs.maps.XpsMaps.serving_queue.Goals as goal

pub returns-in-Some : goal.returns-in-Some
returns-in-Some c =
    let m = c.self.inside in
    let queues = take m.count m.queues in
    let place : ℕ = c.rxq.inside.0 in
    let inverse : Inverts (take m.count m.cpus) queues c.in-Some.inverse =
    subst (λ (i : Option Inverse). IfSome i (Inverts (take m.count m.cpus) queues)) c.in-Some.is
    c.self.invariant.2 in
    rw (← c.self.view_is, ← c.rxq.view_is, c.set_at.ensures)
    (members-serving m.count 16 (serves_queue_of queues) c.in-Some.inverse.by_queue place
    (omega arith) (omega arith) inverse.queues (λ tx far. far_queue queues tx place far)
    (λ tx beyond. beyond_queues m.count m.queues tx place beyond))

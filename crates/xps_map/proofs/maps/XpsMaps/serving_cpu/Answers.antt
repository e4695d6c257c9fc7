use Rattle.std.proofs.Common.{ℕ, arith, take, subst, Option, IfSome}
use Rattle.xps_map.proofs.MapsLemmas.{beyond_cpus, far_cpu, members-serving}
use Rattle.xps_map.specs.Inverses.{Inverts, serves_cpu_of}
use Rattle.xps_map.specs.declared.inverse.Inverse.{Inverse}
use Rattle.xps_map.proofs.maps.XpsMaps.serving_cpu.Goals as goal

pub returns-in-Some : goal.returns-in-Some
returns-in-Some c =
    let m = c.self.inside in
    let cpus = take m.count m.cpus in
    let place : ℕ = c.cpu.inside.0 in
    let inverse : Inverts cpus (take m.count m.queues) c.in-Some.inverse =
    subst (λ (i : Option Inverse). IfSome i (Inverts cpus (take m.count m.queues))) c.in-Some.is
    c.self.invariant.2 in
    rw (← c.self.view_is, ← c.cpu.view_is, c.set_at.ensures)
    (members-serving m.count 32 (serves_cpu_of cpus) c.in-Some.inverse.by_cpu place (omega arith)
    (omega arith) inverse.cpus (λ tx far. far_cpu cpus tx place far)
    (λ tx beyond. beyond_cpus m.count m.cpus tx place beyond))

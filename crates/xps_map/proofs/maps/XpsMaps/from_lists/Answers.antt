use Rattle.std.proofs.Common.{ℕ, ◌≡◌, List, ap, ap₂, arith, length, ◌∙◌}
use Rattle.steer_base.specs.declared.cpu_mask.CpuMask.{CpuMask}
use Rattle.xps_map.proofs.MapsLemmas.{set-filled}
use Rattle.xps_map.specs.Maps.{Maps, no_cpus}
use Rattle.xps_map.proofs.maps.XpsMaps.from_lists.Goals as goal

pub invariant_of-maps : goal.invariant_of-maps
invariant_of-maps c =
    let maps = c.maps.view_is ∙ c.make-maps.ensures in (
      c.maps.invariant.0,
      c.maps.invariant.1,
      rw (ap (λ (m : Maps). m.cpus) maps, ap (λ (m : Maps). m.queues) maps)
          (c.empty.ensures (length c.args.cpus.now)),
    )

pub loop-tx-preserved : goal.loop-tx-preserved
loop-tx-preserved c =
    let cpus : List CpuMask = c.args.cpus.now in
    let queues : List ℕ = c.args.queues.now in
    let count = length cpus in
    let maps : List CpuMask → List ℕ → Maps = λ cpus queues. record {
      count = count;
      cpus = cpus;
      queues = queues;
    } in
    let tx : ℕ = c.loop-tx.tx in
    let place : c.from.result ≡ tx = omega arith in
    let place_too : c.from-in-loop-tx.result ≡ tx = omega arith in
    rw (c.set_queues.ensures, c.set_cpus.ensures, c.loop-tx.invariant, place, place_too)
    (ap₂ maps (set-filled cpus tx count no_cpus (omega arith) (omega arith))
    (set-filled queues tx count 0 (omega arith) (omega arith)))

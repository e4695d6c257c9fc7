use Rattle.std.proofs.Common.{ℕ, ◌≡◌, ap, arith}
use Rattle.xps_map.proofs.ServingLemmas.{members-passing}
use Rattle.xps_map.specs.Maps.{Maps, serves_queue}
use Rattle.xps_map.proofs.maps.XpsMaps.search_queue.Goals as goal

pub returns : goal.returns
returns c =
    let maps = c.args.self.now in
    let test = λ (tx : ℕ). serves_queue maps tx c.args.rxq in
    let same : c.self.inside.count ≡ maps.count = ap (λ (m : Maps). m.count) c.self.view_is in
    let all : c.loop-tx.tx ≡ maps.count = omega arith in
    members-passing c.loop-tx.set maps.count test (omega (arith, c.self.invariant))
    (rw (← all) c.loop-tx.invariant)

use Rattle.std.proofs.Common.{rules, ℕ, ◌≡◌, ap, sym, refl, ◌∙◌, arith}
use Rattle.std.specs.Prelude.{unwrap_or}
use Rattle.steer_base.specs.Sets.{at_hash}
use Rattle.xps_map.proofs.CandidatesLemmas.{at_hash-all, within}
use Rattle.xps_map.specs.Maps.{Maps, picked, serves_cpu, serves_queue}
use Rattle.xps_map.proofs.maps.XpsMaps.pick.Goals as goal

pub returns-in-Some-clause-within : goal.returns-in-Some-clause-within
returns-in-Some-clause-within c =
    let maps = c.args.self.now in
    let same : c.self.inside.count ≡ maps.count = ap (λ (m : Maps). m.count) c.self.view_is in
    let value : c.nth-in-Some.inside.0 ≡ picked maps c.args.rxq c.args.cpu c.args.hash =
    search rules in
    rw value (within maps.count (serves_queue maps) (serves_cpu maps) c.args.rxq c.args.cpu
    c.args.hash (omega (arith, c.self.invariant)))

pub returns-in-None-clause-value : goal.returns-in-None-clause-value
returns-in-None-clause-value c =
    let maps = c.args.self.now in
    let hash : ℕ = unwrap_or c.args.hash 0 in
    let same : c.self.inside.count ≡ maps.count = ap (λ (m : Maps). m.count) c.self.view_is in
    let count : c.from.result ≡ maps.count = omega arith in
    rw (count, c.unwrap_or-hash.ensures)
    (sym (ap (λ all. at_hash all hash) (c.in-None.ensures.none refl)
    ∙ at_hash-all maps.count hash (omega (arith, c.self.invariant))))

use Rattle.std.proofs.Common.{ℕ, rules, ◌≡◌, List, Option, IfSome, take, set, ap, subst, ◌∙◌, arith}
use Rattle.std.proofs.Math.Seq.{take-set-lt}
use Rattle.std.proofs.lemmas.List.{get_or-take, length-take-le}
use Rattle.xps_map.specs.Inverses.{Inverts}
use Rattle.xps_map.specs.Maps.{Maps}
use Rattle.xps_map.specs.declared.inverse.Inverse.{Inverse}
use Rattle.xps_map.proofs.maps.XpsMaps.set_queues.Goals.{Joined-self, in-Some, in_default}
use Rattle.xps_map.proofs.maps.XpsMaps.set_queues.Goals as goal

-- the maps of the transmit queues that are in use
set_maps : (c : Joined-self) → take c.self.inside.count (set c.self.inside.queues
    c.from-place.result c.args.mask)
    ≡ set (take c.self.inside.count c.self.inside.queues) c.args.tx c.args.mask
set_maps c =
    let m = c.self.inside in
    let same : m.count ≡ c.args.self.now.count = ap (λ (maps : Maps). maps.count) c.self.view_is in
    let place : c.from-place.result ≡ c.args.tx = omega arith in
    take-set-lt m.count m.queues c.from-place.result c.args.mask (omega arith)
    ∙ ap (λ i. set (take m.count m.queues) i c.args.mask) place

pub invariant_of-self : goal.invariant_of-self
invariant_of-self c =
    let m = c.self.inside in
    let cpus = take m.count m.cpus in
    let queues = take m.count m.queues in
    let same : m.count ≡ c.args.self.now.count = ap (λ (maps : Maps). maps.count) c.self.view_is in
    let place : c.from-place.result ≡ c.args.tx = omega arith in
    let size = length-take-le m.count m.queues (omega (arith, c.self.invariant)) in
    elim c.match-self.branch [
      | in-Some w ↦
          let before : Inverts cpus queues w.in-Some.inverse =
          subst (λ (i : Option Inverse). IfSome i (Inverts cpus queues)) w.in-Some.is
          c.self.invariant.2 in
          rw w.self-inside-is (
            c.self.invariant.0,
            c.self.invariant.1,
            rw (set_maps c) (w.put_queues.ensures cpus queues (omega arith)
                (rw place (get_or-take m.count m.queues c.args.tx 0 (omega arith))) before),
          )
      | in_default w ↦ rw (w.self-inside-is, w.in_default.is) (search rules)
    ]

pub returns : goal.returns
returns c =
    let m = c.self.inside in
    let maps : List ℕ → Maps = λ list. record {
      count = m.count;
      cpus = take m.count m.cpus;
      queues = list;
    } in
    elim c.match-self.branch [
      | in-Some w ↦ rw (w.self-inside-is, ← c.self.view_is) (ap maps (set_maps c))
      | in_default w ↦ rw (w.self-inside-is, ← c.self.view_is) (ap maps (set_maps c))
    ]

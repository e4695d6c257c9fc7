use Rattle.std.proofs.Common.{◌≡◌, ◌<◌, ℕ, length, ap, sym, subst, arith, ◌∙◌, []}
use Rattle.steer_base.specs.Sets.{has, those_below}
use Rattle.std.specs.Prelude.{◌↔◌, IsOk}
use Rattle.steer_base.proofs.SetsLemmas.{those_below-zero, those_below_fail}
use Rattle.hop_model.specs.Emptied.{AreEmptied, is_waiting}
use Rattle.hop_core.proofs.Empties.{all_empty, busy_at, emptied_is_exact, waits, waits_not}
use Rattle.hop_core.proofs.hop.Hop.emptied.Goals as goal

pub loop-lane-init : goal.loop-lane-init
loop-lane-init c = those_below-zero (is_waiting c.args.self.now (has c.args.lanes))

pub loop-lane-preserved : goal.loop-lane-preserved
loop-lane-preserved c =
    let s = c.args.self.now in
    let sound = rw c.self.view_is at c.self.invariant.sound in
    let quiet = rw (c.has.ensures, c.head-head.ensures, c.tail-tail.ensures) at c.else-has.either in
    those_below_fail c.loop-lane.lane (is_waiting s (has c.args.lanes))
    (waits_not s c.args.lanes c.loop-lane.lane sound quiet) ∙ c.loop-lane.invariant

pub returns-then-head-tail : goal.returns-then-head-tail
returns-then-head-tail c =
    let s = c.args.self.now in
    let lane : ℕ = c.loop-lane.lane in
    let apart = rw (c.head-head.ensures, c.tail-tail.ensures) at c.if-head-tail.true in
    let passes = waits s c.args.lanes lane (sym c.has.ensures ∙ c.if-has.true) apart in
    let below : lane < length s.bare.accepted =
    omega (arith, c.count-lane-end.ensures, ap (λ s. length s.bare.accepted) c.self.view_is) in
    let is = busy_at s (has c.args.lanes) lane c.loop-lane.invariant below passes in
    rw (c.head-head.ensures, c.tail-tail.ensures)
    (record {
      answer = is;
      ok = subst (λ r. IsOk r ↔ AreEmptied s c.args.lanes) (sym is)
          (emptied_is_exact s (has c.args.lanes));
    })

pub returns-clause-ok : goal.returns-clause-ok
returns-clause-ok c =
    let s = c.args.self.now in
    let end : c.loop-lane.lane ≡ length s.bare.accepted =
    omega (arith, c.count-lane-end.ensures, ap (λ s. length s.bare.accepted) c.self.view_is) in
    let is = all_empty s (has c.args.lanes)
    (subst (λ n. those_below n (is_waiting s (has c.args.lanes)) ≡ []) end
    c.loop-lane.invariant) in
    subst (λ r. IsOk r ↔ AreEmptied s c.args.lanes) (sym is) (emptied_is_exact s (has c.args.lanes))

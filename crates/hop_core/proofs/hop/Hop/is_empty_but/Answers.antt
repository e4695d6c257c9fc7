use Rattle.std.proofs.Common.{◌≡◌, sym, ◌∙◌, below_more, inl, inr, false, true}
use Rattle.hop_core.proofs.Empties.{head_is_tail}
use Rattle.hop_core.proofs.hop.Hop.is_empty_but.Goals as goal

pub loop-lane-preserved : goal.loop-lane-preserved
loop-lane-preserved c =
    let s = c.args.self.now in
    let sound = rw c.self.view_is at c.self.invariant.sound in
    let quiet = rw (c.has.ensures, c.head-head.ensures, c.tail-tail.ensures) at
    c.else-not-has.either in
    below_more _ _ c.loop-lane.invariant (λ off. elim quiet [
      | inl a ↦ head_is_tail s c.loop-lane.lane sound a.1
      | inr b ↦ absurd (let f : true ≡ false = sym b ∙ off in cc)
    ])

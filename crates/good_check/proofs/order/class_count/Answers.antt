use Rattle.std.proofs.Common.{ℕ, ◌<◌, None, Option, arith, length, refl, subst, take}
use Rattle.std.specs.Option.{ForSome}
use Rattle.std.proofs.lemmas.List.{get_or_default}
use Rattle.std.proofs.lemmas.List.Elements.{All-more, All-weaker}
use Rattle.good_check.proofs.ListLemmas.{all-done}
use Rattle.good_check.proofs.order.class_count.Goals as goal

pub loop-class-preserved : goal.loop-class-preserved
loop-class-preserved c =
    let xs = c.args.classes.now in
    let i = c.loop-class.class-index in
    let old = λ (o : Option ℕ). ForSome o (λ k. k < c.loop-class.count) in
    let new = λ (o : Option ℕ). ForSome o (λ k. k < c.with_class-count.result) in
    let here : i < length xs = c.loop-class-test.true in
    All-more new xs i None here
    (All-weaker old new (λ o h x e.
    omega (arith, h x e, c.with_class-count.ensures.least)) (take i xs) c.loop-class.invariant)
    (subst new (get_or_default xs i _ None here) c.with_class-count.ensures.within)

pub returns : goal.returns
returns c =
    all-done (λ (o : Option ℕ). ForSome o (λ k. k < c.loop-class.count)) c.args.classes.now
    c.args.classes.now c.loop-class.class-index refl c.loop-class-test.false
    c.loop-class.invariant

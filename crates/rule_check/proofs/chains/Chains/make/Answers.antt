use Rattle.std.proofs.Common.{◌≡◌, ◌<◌, ◌∷◌, ◌-◌, ◌∙◌, None, ap, arith, drop, get_or, length}
use Rattle.std.proofs.Common.{subst, suc, sym}
use Rattle.std.proofs.Math.Seq.{drop-cons}
use Rattle.std.proofs.lemmas.Grind.{get_or_default_zero}
use Rattle.std.proofs.lemmas.List.{drop_all}
use Rattle.steer_base.specs.Entries.{place_in}
use Rattle.rule_check.specs.Chains.{AreChained}
use Rattle.rule_check.proofs.ChainsLemmas.{once-after}
use Rattle.rule_check.proofs.chains.Chains.make.Goals as goal

pub loop-left-init : goal.loop-left-init
loop-left-init c = record {
  within = omega arith;
  chained = subst (λ xs. AreChained c.args.classes.now c.in_ok-chains.chains xs)
      (sym (drop_all (length c.args.came.now) c.args.came.now (omega arith)))
      (c.in_ok-chains.ensures.chained c.args.classes.now);
  first = c.in_ok-chains.ensures.classes;
  next = c.in_ok-chains.ensures.packets;
}

pub loop-left-preserved : goal.loop-left-preserved
loop-left-preserved c =
    let came = c.args.came.now in
    let i = c.loop-left.left - 1 in
    let v = c.loop-left.invariant in
    let some : 0 < c.loop-left.left = c.loop-left-test.true in
    let here : i < length came = omega (arith, v.within, some) in
    let next : suc i ≡ c.loop-left.left = omega (arith, some) in
    let x = c.index-came-left.result in
    let is : x ≡ get_or came i 0 =
    c.index-came-left.is ∙ get_or_default_zero came i c.index-came-left.result here in
    let cut : drop i came ≡ x ∷ drop c.loop-left.left came =
    subst (λ n. drop i came ≡ x ∷ drop n came) next
    (drop-cons came i 0 here ∙ ap (λ y. y ∷ drop (suc i) came) (sym is)) in
    let lacks : place_in x (drop c.loop-left.left came) ≡ None =
    subst (λ n. place_in x (drop n came) ≡ None) next
    (subst (λ y. place_in y (drop (suc i) came) ≡ None) (sym is)
    (once-after came i c.requires.once here)) in
    let put : AreChained c.args.classes.now c.put_first.new.self
    (x ∷ drop c.loop-left.left came) =
    c.put_first.ensures.chained (drop c.loop-left.left came) v.chained lacks in
    record {
      within = omega (arith, v.within);
      chained = subst (λ xs. AreChained c.args.classes.now c.put_first.new.self xs) (sym cut) put;
      first = c.put_first.ensures.classes ∙ v.first;
      next = c.put_first.ensures.packets ∙ v.next;
    }

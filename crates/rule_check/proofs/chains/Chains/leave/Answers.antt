use Rattle.std.proofs.Common.{◌≡◌, ◌<◌, ◌++◌, ◌∷◌, ◌∙◌, [], ap, arith}
use Rattle.std.proofs.Common.{drop, get_or, length, subst, suc, sym, take}
use Rattle.std.proofs.lemmas.Grind.{get_or_default_zero}
use Rattle.std.proofs.lemmas.List.{take_all}
use Rattle.steer_base.specs.Orders.{IsPrefix}
use Rattle.rule_check.specs.Chains.{AreLeft, in_class}
use Rattle.rule_check.proofs.ChainsLemmas.{rest-from, taken-more}
use Rattle.rule_check.proofs.chains.Chains.leave.Goals as goal

pub returns-then-not-take-clause-no : goal.returns-then-not-take-clause-no
returns-then-not-take-clause-no c = λ f came gone more h p.
    let xs = c.args.leaving.now in
    let i = c.loop-id.id-index in
    let here : i < length xs = c.loop-id-test.true in
    let v = c.loop-id.invariant in
    let is : c.id-item.result ≡ get_or xs i 0 =
    c.id-item.is ∙ get_or_default_zero xs i c.id-item.result here in
    c.take.ensures.no c.if-not-take.true came (gone ++ take i xs) (drop (suc i) xs ++ more)
    (v.left came gone h)
    (λ k l. subst (λ ys. IsPrefix (in_class c.args.classes.now k ys)
    (in_class c.args.classes.now k came))
    (rest-from gone xs more i here
    ∙ ap (λ y. (gone ++ take i xs) ++ y ∷ (drop (suc i) xs ++ more)) (sym is))
    (p k (omega (arith, l, v.first))))

pub loop-id-preserved : goal.loop-id-preserved
loop-id-preserved c =
    let xs = c.args.leaving.now in
    let i = c.loop-id.id-index in
    let here : i < length xs = c.loop-id-test.true in
    let v = c.loop-id.invariant in
    let is : c.id-item.result ≡ get_or xs i 0 =
    c.id-item.is ∙ get_or_default_zero xs i c.id-item.result here in
    record {
      left = λ came gone h. subst (λ ys. AreLeft c.args.classes.now c.take.new.self came ys)
          (ap (λ y. (gone ++ take i xs) ++ y ∷ []) is ∙ taken-more gone xs i here)
          (c.take.ensures.yes c.if-not-take.false came (gone ++ take i xs) (v.left came gone h));
      first = c.take.ensures.classes ∙ v.first;
      next = c.take.ensures.packets ∙ v.next;
    }

pub returns-clause-yes : goal.returns-clause-yes
returns-clause-yes c = λ t came gone h.
    let xs = c.args.leaving.now in
    subst (λ ys. AreLeft c.args.classes.now c.loop-id.self came (gone ++ ys))
    (take_all c.loop-id.id-index xs c.loop-id-test.false) (c.loop-id.invariant.left came gone h)

use Rattle.std.proofs.Common.{◌<◌, [], append-nil, arith, inl, inr, length, subst, sym}
use Rattle.std.proofs.lemmas.Bool.{cases_Bool, cases_lt}
use Rattle.steer_base.specs.Orders.{IsPrefix}
use Rattle.rule_check.specs.Chains.{in_class}
use Rattle.good_check.proofs.OrderLemmas.{class-beyond, prefix-none}
use Rattle.good_check.proofs.order.leave_in_order.Goals as goal

pub returns-clause-yes : goal.returns-clause-yes
returns-clause-yes c = λ t k.
    let classes = c.args.classes.now in
    let came = c.args.came.now in
    let left = c.args.left.now in
    elim (cases_lt k c.class_count.result) [
      | inl l ↦
          let l' : k < length c.leave.new.self.first.items =
          omega (arith, l, c.leave.ensures.classes, c.in_ok-chains.ensures.classes) in
          let w = c.leave.ensures.yes t came [] c.in_ok-chains.ensures.left k l' in
          (w.0, w.2)
      | inr l ↦
          prefix-none (in_class classes k left) (in_class classes k came)
          (class-beyond classes c.class_count.result k left c.class_count.ensures c.requires.left
          (λ m. omega (arith, l, m)))
    ]

pub returns-clause-no : goal.returns-clause-no
returns-clause-no c = λ o.
    let classes = c.args.classes.now in
    let came = c.args.came.now in
    let left = c.args.left.now in
    elim (cases_Bool c.leave.result) [
      | inl t ↦ t
      | inr f ↦
          absurd (c.leave.ensures.no f came [] [] c.in_ok-chains.ensures.left (λ k l.
          subst (λ ys. IsPrefix (in_class classes k ys) (in_class classes k came))
          (sym (append-nil left)) (o k)))
    ]

use Rattle.std.proofs.Common.{◌≡◌, ◌<◌, ◌+◌, [], ◌∷◌, ◌++◌, take, length, sym, ap, subst, ◌∙◌}
use Rattle.std.proofs.Common.{arith}
use Rattle.std.proofs.lemmas.List.{take_more, length-take-le}
use Rattle.ntuple_rules.specs.Groups.{Finds}
use Rattle.ntuple_rules.proofs.Searched.{sifts_more}
use Rattle.ntuple_rules.proofs.classifier.Classifier.make.Goals as goal

pub loop-number-preserved : goal.loop-number-preserved
loop-number-preserved c =
    let rules = c.args.rules.now.rules in
    let n = c.loop-number.number in
    let rule = c.rule-item.result in
    let items = c.as_slice-rule-items.ensures in
    let within : n < length rules = rw items at c.loop-number-test.true in
    let len : length (take n rules) ≡ n = length-take-le n rules (omega (arith, within)) in
    let more : take (n + 1) rules ≡ take n rules ++ rule ∷ [] =
    take_more rules n rule within
    ∙ ap (λ r. take n rules ++ r ∷ []) (sym (rw items at c.rule-item.is)) in
    record {
      finds = subst (Finds c.add.new.groups.items) (sym more)
          (c.in_ok-place.ensures.finds (take n rules) c.loop-number.invariant.finds (sym len));
      order = c.in_ok-place.ensures.order c.loop-number.invariant.order;
      sifts = sifts_more _ _ _ _ _ c.rule-item.result c.loop-number.invariant.sifts
          c.in_ok-place.ensures.more c.in_ok-admit.ensures.more c.in_ok-admit.ensures.rule;
    }

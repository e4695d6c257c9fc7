use Rattle.std.proofs.Common.{◌≡◌, ◌<◌, ◌++◌, ◌∙◌, [], ap, arith, get_or, length, sym, take}
use Rattle.std.specs.List.{concat}
use Rattle.std.proofs.lemmas.List.{get_or_default}
use Rattle.good_check.proofs.OrderLemmas.{concat-more}
use Rattle.good_check.proofs.order.joined.Goals as goal

pub loop-list-preserved : goal.loop-list-preserved
loop-list-preserved c =
    let xs = c.args.lists.now in
    let i = c.loop-list.list-index in
    let e : c.as_slice-list-items.result.now ≡ xs = c.as_slice-list-items.ensures in
    let here : i < length xs = omega (arith, c.loop-list-test.true, ap length e) in
    let is : c.list-item.result ≡ get_or xs i [] =
    c.list-item.is ∙ ap (λ ys. get_or ys i c.list-item.result) e
    ∙ get_or_default xs i c.list-item.result [] here in
    c.in_ok-extend_from_slice.ensures.items
    ∙ ap (λ ys. ys ++ c.as_slice.result.now) c.loop-list.invariant
    ∙ ap (λ ys. concat (take i xs) ++ ys) (c.as_slice.ensures ∙ is)
    ∙ sym (concat-more xs i here)

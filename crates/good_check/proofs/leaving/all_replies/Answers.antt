use Rattle.std.proofs.Common.{◌≡◌, ◌<◌, ◌++◌, ◌∙◌, [], List, ap, arith, get_or, length, map}
use Rattle.std.proofs.Common.{sym, take}
use Rattle.std.proofs.lemmas.List.{get_or_default}
use Rattle.history.specs.declared.sent.Sent.{Sent}
use Rattle.good_check.specs.Order.{all_replies}
use Rattle.good_check.proofs.OrderLemmas.{replies-more}
use Rattle.good_check.proofs.leaving.all_replies.Goals as goal

pub loop-list-preserved : goal.loop-list-preserved
loop-list-preserved c =
    let xs = c.args.sent.now in
    let i = c.loop-list.list-index in
    let ids = λ (list : List Sent). map (λ s. s.id) list in
    let e : c.as_slice-list-items.result.now ≡ xs = c.as_slice-list-items.ensures in
    let here : i < length xs = omega (arith, c.loop-list-test.true, ap length e) in
    let is : c.list-item.result ≡ get_or xs i [] =
    c.list-item.is ∙ ap (λ ys. get_or ys i c.list-item.result) e
    ∙ get_or_default xs i c.list-item.result [] here in
    c.in_ok-add_replies.ensures
    ∙ ap (λ ys. ys ++ ids c.as_slice.result.now) c.loop-list.invariant
    ∙ ap (λ ys. all_replies (take i xs) ++ ids ys) (c.as_slice.ensures ∙ is)
    ∙ sym (replies-more ids xs i [] here)

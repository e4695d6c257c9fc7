use Rattle.std.proofs.Common.{◌<◌, length, Ok, IfOk, arith, subst}
use Rattle.plan_reader.proofs.BitsOfItems.{set_more}
use Rattle.plan_reader.proofs.Placed.{gives_placed, under_here_ok}
use Rattle.plan_reader.proofs.Sets.{bits_fit}
use Rattle.plan_reader.proofs.Views.{items_view-drop}
use Rattle.plan_reader.proofs.values.bits.bits_of_items.Goals as goal

pub loop-position-preserved : goal.loop-position-preserved
loop-position-preserved c =
    let number = c.in_ok-number.number in
    let read = gives_placed _ _ (Ok number) _ c.here.ensures c.in_ok-number.ensures in
    let plain = under_here_ok _ _ _ read in
    let within : number < c.args.limit =
    subst (λ r. IfOk r (λ n. n < c.args.limit)) plain c.number_below.ensures.within in
    let in_list : c.loop-position.position < length c.deref-item-items.result.now = omega arith in
    let next = items_view-drop c.args.items.now.items c.loop-position.position c.item-item.result
    (rw c.deref-item-items.ensures.value at in_list)
    (rw c.deref-item-items.ensures.value at c.item-item.is) in (
      set_more c.args.limit c.loop-position.position c.loop-position.bits number _ _ _ (omega arith)
          (rw c.number_below.ensures.gives at read) (rw next at c.loop-position.invariant.0),
      bits_fit c.args.limit c.loop-position.bits number c.requires within
          c.loop-position.invariant.1,
    )

use Rattle.std.proofs.Common.{append_assoc}
use Rattle.workers.proofs.Names.{◌++◌, ◌∷◌, [], ap, sym, ◌∙◌, arith, length-append, length-set}
use Rattle.workers.proofs.Names.{into_iter_items}
use Rattle.workers.proofs.DealLemmas.{one-more}
use Rattle.workers.proofs.round_robin.deal.Goals as goal

pub loop-item-preserved : goal.loop-item-preserved
loop-item-preserved g c =
    let l = c.loop-item in
    let i = c.loop-item.invariant in
    record {
      all =
          append_assoc l.yielded (c.in-Some.item ∷ []) (into_iter_items c.next.new.self)
          ∙ (ap (λ xs. l.yielded ++ xs) (sym c.in-Some.ensures.steps.0) ∙ i.all);
      next = let n = length-append l.yielded (c.in-Some.item ∷ []) in
          let next = i.next in omega (arith, n, next);
      count = length-set l.hands.items _ c.push.new.self ∙ i.count;
      dealt =
          one-more (λ hand. hand.items) l.yielded l.hands.items l.next c.args.count i.next i.count
          c.requires.some i.dealt c.index_mut.result.now c.push.new.self c.in-Some.item
          c.index_mut.ensures.value c.in_ok-push.ensures.items;
    }

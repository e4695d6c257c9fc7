use Rattle.workers.proofs.Names.{◌≡◌, ◌++◌, length, map, into_iter_items, AreDealt}
use Rattle.workers.proofs.round_robin.deal.Given as goal

abbrev pub invariant-loop-item : goal.invariant-loop-item
invariant-loop-item g l = record {
  all : l.yielded ++ into_iter_items l.item-iterator ≡ l.fn.items.items;
  next : l.next ≡ length l.yielded;
  count : length l.hands.items ≡ l.count;
  dealt : AreDealt l.yielded (map (λ hand. hand.items) l.hands.items);
}

use Rattle.workers.proofs.Names.{◌≡◌, ◌++◌, List, length, map, reverse, journal, Poller}
use Rattle.workers.proofs.RingLemmas.{AreSettled}
use Rattle.workers.proofs.lists.take_queues.Given as goal

abbrev pub invariant-loop-poller : goal.invariant-loop-poller
invariant-loop-poller l = record {
  front : List Poller;
  whole : front ++ reverse l.pollers.items ≡ l.fn.pollers.items;
  taken : l.taken ≡ journal (map (λ p. length p.choices.items) front) (length l.fn.pollers.items);
  choices : l.choices ≡ journal (map (λ p. p.choices.items) front) (length l.fn.pollers.items);
  settled : AreSettled l.fn.wire l.wire front;
}

abbrev pub decreases-loop-poller : goal.decreases-loop-poller
decreases-loop-poller l = goal.left-loop-poller l

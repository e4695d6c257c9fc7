use Rattle.workers.proofs.Names.{◌≡◌, ◌+◌, ◌++◌, List, length, map, reverse, journal, Seated}
use Rattle.workers.proofs.parts.take_apart.Given as goal

abbrev pub invariant-loop-worker : goal.invariant-loop-worker
invariant-loop-worker l = record {
  front : List Seated;
  whole : front ++ reverse l.crew.items ≡ l.fn.crew.items;
  rx : l.seats.rx ≡ journal (map (λ x. x.seats.rx) front) (length l.fn.crew.items + 1);
  tx : l.seats.tx ≡ journal (map (λ x. x.seats.tx) front) (length l.fn.crew.items + 1);
  hints : l.seats.hints ≡ journal (map (λ x. x.seats.hint) front) (length l.fn.crew.items + 2);
  pollers : l.pollers ≡ journal (map (λ x. x.worker.pollers) front) (length l.fn.crew.items);
  servers : l.servers ≡ journal (map (λ x. x.worker.servers) front) (length l.fn.crew.items);
}

abbrev pub decreases-loop-worker : goal.decreases-loop-worker
decreases-loop-worker l = goal.left-loop-worker l

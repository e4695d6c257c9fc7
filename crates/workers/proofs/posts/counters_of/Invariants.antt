use Rattle.workers.proofs.Names.{◌≡◌, ◌++◌, length, map, Each}
use Rattle.workers.proofs.posts.counters_of.Given as goal

abbrev pub invariant-loop-number : goal.invariant-loop-number
invariant-loop-number l = record {
  seats : map (λ c. c.seat) l.counters.items ++ l.left.items ≡ l.fn.seats.items;
  count : length l.counters.items ≡ l.number;
  numbers : Each (λ k c. c.number ≡ k) l.counters.items;
}

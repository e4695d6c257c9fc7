use Rattle.workers.proofs.Names.{◌≡◌, ◌++◌, length, map, into_iter_items}
use Rattle.workers.proofs.posts.man.Given as goal

abbrev pub invariant-loop-seated : goal.invariant-loop-seated
invariant-loop-seated l = record {
  all : l.yielded ++ into_iter_items l.seated-iterator ≡ l.fn.crew.items;
  crew : map (λ p. p.seated) l.manned.items ≡ l.yielded;
  counters : map (λ p. p.counter) l.manned.items ++ l.left.items ≡ l.fn.counters.items;
  room : l.manned.room ≡ length l.fn.crew.items;
}

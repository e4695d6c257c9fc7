use Rattle.workers.proofs.Names.{◌≡◌, ◌++◌, length, map, into_iter_items, journal}
use Rattle.workers.proofs.posts.dismiss.Given as goal

abbrev pub invariant-loop-post : goal.invariant-loop-post
invariant-loop-post l = record {
  all : l.yielded ++ into_iter_items l.post-iterator ≡ l.fn.posts.items;
  crew : l.back ≡ journal (map (λ p. p.seated) l.yielded) (length l.fn.posts.items);
  seats : l.free ≡ journal (map (λ p. p.counter.seat) l.yielded) (length l.fn.posts.items);
}

use Rattle.std.proofs.Common.{ℕ, ◌≡◌, ◌<◌, length, map, get_or}
use Rattle.history.specs.Lists.{list_at}
use Rattle.report_reader.proofs.shelf.Places.make.Given as goal

abbrev pub invariant-loop-n : goal.invariant-loop-n
invariant-loop-n l = record {
  lists : length l.lists.items ≡ l.n;
  long : (k : ℕ) → k < l.n
      → length (list_at (map (λ list. list.items) l.lists.items) k) ≡ get_or l.counts k 0;
}

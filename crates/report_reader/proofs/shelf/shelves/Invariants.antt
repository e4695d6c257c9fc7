use Rattle.std.proofs.Common.{ℕ, ◌≡◌, ◌<◌, List, length}
use Rattle.history.specs.Lists.{list_at}
use Rattle.report_reader.specs.Slots.{IsShelved}
use Rattle.report_reader.proofs.ShelvesLemmas.{IsUpTo}
use Rattle.report_reader.proofs.shelf.shelves.Given as goal

abbrev pub invariant-loop-x : goal.invariant-loop-x
invariant-loop-x l = record {
  lists : length l.shelves ≡ l.count;
  up : (n : ℕ) (wanted : List ℕ) → n < l.count → IsShelved l.fn.start l.fn.kind l.fn.seen n wanted
      → IsUpTo l.x (list_at l.shelves n) wanted;
}

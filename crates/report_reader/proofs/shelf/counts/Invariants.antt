use Rattle.std.proofs.Common.{ℕ, ◌≡◌, ◌≤◌, ◌<◌, List, length, get_or, map}
use Rattle.report_reader.specs.Slots.{IsShelved, slot_of}
use Rattle.report_reader.specs.declared.shelf.TheConstants.{LISTS}
use Rattle.report_reader.specs.declared.slots.Kind.{Kind}
use Rattle.report_reader.specs.declared.slots.Seen.{Seen}
use Rattle.report_reader.proofs.ShelvesLemmas.{below}
use Rattle.report_reader.proofs.shelf.counts.Given as goal

abbrev pub invariant-loop-x : goal.invariant-loop-x
invariant-loop-x l = record {
  lists : length l.counts.items ≡ LISTS;
  few : (n : ℕ) → n < LISTS → get_or l.counts.items n 0 ≤ l.x;
  counted : (start : ℕ) (kind : Kind) (seen : List Seen) (n : ℕ) (wanted : List ℕ)
      → l.slots ≡ map (slot_of start kind) seen → n < LISTS → IsShelved start kind seen n wanted
      → get_or l.counts.items n 0 ≡ below l.x wanted;
}

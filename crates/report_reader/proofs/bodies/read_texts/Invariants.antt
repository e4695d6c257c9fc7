use Rattle.std.proofs.Common.{◌≤◌, ◌+◌, ◌*◌, ◌-◌, length}
use Rattle.report_reader.proofs.TextsLemmas.{KeepsTexts}
use Rattle.report_reader.specs.declared.shortest.TheConstants.{SHORTEST_TAP}
use Rattle.report_reader.proofs.bodies.read_texts.Given as goal

abbrev pub invariant-loop-next : goal.invariant-loop-next
invariant-loop-next l = record {
  within : l.next ≤ length l.bytes;
  fit : length l.items.items * SHORTEST_TAP + l.at ≤ l.next;
  reading : KeepsTexts l.bytes l.at l.items.items l.next;
}

abbrev pub decreases-loop-next : goal.decreases-loop-next
decreases-loop-next l = length l.bytes - l.next

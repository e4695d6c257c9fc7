use Rattle.std.proofs.Common.{◌≤◌, ◌+◌, ◌*◌, ◌-◌, length}
use Rattle.report_reader.proofs.SectionsLemmas.{KeepsReading}
use Rattle.report_reader.proofs.sections.read_section.Given as goal

abbrev pub invariant-loop-next : goal.invariant-loop-next
invariant-loop-next g l = record {
  within : l.next ≤ length l.bytes;
  few : length l.items.items ≤ l.most;
  fit : length l.items.items * g.S.Section.least + l.at ≤ l.next;
  reading : KeepsReading g.S.Section.first g.S.Section.least g.S.Section.shows l.bytes l.at l.most
      l.items.items
      l.next;
}

abbrev pub decreases-loop-next : goal.decreases-loop-next
decreases-loop-next g l = length l.bytes - l.next

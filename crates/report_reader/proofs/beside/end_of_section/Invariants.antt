use Rattle.std.proofs.Common.{◌-◌, ◌≤◌, length}
use Rattle.report_reader.proofs.beside.end_of_section.Given as goal

abbrev pub invariant-loop-own : goal.invariant-loop-own
invariant-loop-own l = record {
  own : l.own ≤ length l.bytes;
  end : l.end ≤ length l.bytes;
}

abbrev pub decreases-loop-own : goal.decreases-loop-own
decreases-loop-own l = l.end - l.own

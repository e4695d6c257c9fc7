use Rattle.std.proofs.Common.{◌≡◌, drop, map}
use Rattle.report.specs.Lines.{packet_row}
use Rattle.report.specs.Texts.{text_of}
use Rattle.report.proofs.WrittenLemmas.{Goes}
use Rattle.report.proofs.sections.write_packets.Given as goal

-- the lines are still those, and the rows of the packets from this one on are left
abbrev pub invariant-loop-id : goal.invariant-loop-id
invariant-loop-id g l = record {
  lines : l.packets ≡ l.fn.lines.packets;
  goes : Goes (g.K.Sink.written l.initial.out) (g.K.Sink.written l.out)
      (g.K.Sink.faults l.initial.out) (g.K.Sink.faults l.out)
      (text_of (map packet_row l.fn.lines.packets))
      (text_of (map packet_row (drop l.id l.fn.lines.packets)));
}

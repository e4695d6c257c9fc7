use Rattle.std.proofs.Common.{◌≡◌, ◌≤◌, []}
use Rattle.std.specs.Io.KnownBytes.{Appends}
use Rattle.steer_top.specs.HashText.{numbered_lines}
use Rattle.steer_top.proofs.writing.write_packets.Given as goal

-- the lines of the packets so far went out
abbrev pub invariant-loop-number : goal.invariant-loop-number
invariant-loop-number g l = record {
  empty : l.line ≡ [];
  written : Appends (g.K.Sink.written l.initial.out) (g.K.Sink.written l.out)
      (numbered_lines (g.P.PacketLine.text l.packets) l.number);
  later : g.K.Sink.faults l.initial.out ≤ g.K.Sink.faults l.out;
}

use Rattle.std.proofs.Common.{◌≡◌}
use Rattle.pcap_reader.specs.Writing.{capture_bytes}
use Rattle.cap_gen.specs.Packets.{packets_of}
use Rattle.cap_gen.proofs.Words.{generator_at}
use Rattle.cap_gen.proofs.capture.capture_bytes.Given as goal

abbrev pub invariant-loop-i : goal.invariant-loop-i
invariant-loop-i l = (l.words ≡ generator_at l.seed l.i)
    × (l.bytes.items ≡ capture_bytes (packets_of l.seed l.flows l.i))

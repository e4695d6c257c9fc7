use Rattle.std.proofs.Common.{refl}
use Rattle.pcap_reader.proofs.Written.{keeps_frames, reads_back}
use Rattle.cap_gen.specs.Packets.{packets_of}
use Rattle.cap_gen.proofs.Captures.{has_capture}
use Rattle.cap_gen.proofs.laws.a_generated_capture_has_its_frames.Goals as goal

pub returns : goal.returns
returns c = λ seed flows n few. (
  has_capture seed flows n _ reads_back few refl,
  keeps_frames (packets_of seed flows n),
)

use Rattle.steer_model.proofs.Capture.PacketLemmas.{packets_are_one}
use Rattle.steer_model.proofs.laws.a_capture_has_one_list_of_packets.Goals as goal

pub returns : goal.returns
returns c = packets_are_one

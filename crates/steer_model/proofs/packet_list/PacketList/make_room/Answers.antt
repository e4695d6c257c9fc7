use Rattle.steer_model.proofs.Capture.WaitingLemmas.{settled-list}
use Rattle.steer_model.proofs.packet_list.PacketList.make_room.Goals as goal

pub returns : goal.returns
returns c = λ key kinds frames is.
    settled-list key kinds frames c.number_waiting.new.self
    (c.in_ok-number_waiting.ensures key kinds frames is)

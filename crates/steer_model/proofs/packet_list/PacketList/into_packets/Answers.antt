use Rattle.std.proofs.Common.{subst, sym}
use Rattle.steer_model.proofs.Capture.WaitingLemmas.{numbered-of-flows}
use Rattle.steer_model.specs.Capture.Packets.{ArePacketsOfFrames}
use Rattle.steer_model.specs.State.Ranges.{AreOfFlows}
use Rattle.steer_model.proofs.packet_list.PacketList.into_packets.Goals as goal

pub returns-clause-list : goal.returns-clause-list
returns-clause-list c = λ key kinds frames is.
    subst (ArePacketsOfFrames key kinds frames) (sym c.into_packets.ensures)
    (c.in_ok-number_waiting.ensures key kinds frames is).packets.packets

pub returns-clause-flows : goal.returns-clause-flows
returns-clause-flows c = λ key kinds frames is.
    subst AreOfFlows (sym c.into_packets.ensures)
    (numbered-of-flows key kinds frames _
    (c.in_ok-number_waiting.ensures key kinds frames is).packets)

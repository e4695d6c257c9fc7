use Rattle.steer_model.specs.Capture.PacketLists.{IsListOf}
use Rattle.steer_model.proofs.Capture.RecordLemmas.{frames_before}
use Rattle.steer_model.proofs.packet_list.packets.Given as goal

abbrev pub invariant-loop-from : goal.invariant-loop-from
invariant-loop-from l =
    IsListOf l.key l.fn.kinds.0 (frames_before l.bytes l.records l.from-index) l.packets

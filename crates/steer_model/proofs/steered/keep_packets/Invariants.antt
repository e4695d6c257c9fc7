use Rattle.std.proofs.Common.{◌≡◌, map, take}
use Rattle.steer_model.proofs.steered.keep_packets.Given as goal

abbrev pub invariant-loop-packet : goal.invariant-loop-packet
invariant-loop-packet l = map (λ s. s.packet.value) l.kept.items ≡ take l.packet-index l.packets

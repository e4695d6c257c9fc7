use Rattle.std.proofs.Common.{take}
use Rattle.steer_model.specs.State.Ranges.{AreFlowHashes}
use Rattle.steer_model.proofs.flow_hashes.keep_hashes.Given as goal

abbrev pub invariant-loop-packet : goal.invariant-loop-packet
invariant-loop-packet l = AreFlowHashes (take l.packet-index l.packets) l.hashes

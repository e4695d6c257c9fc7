use Rattle.std.proofs.Common.{◌∙◌, ap}
use Rattle.steer_model.specs.State.Ranges.{with_hash}
use Rattle.steer_model.proofs.Capture.HashLemmas.{hashes-next}
use Rattle.steer_model.proofs.flow_hashes.keep_hashes.Goals as goal

pub loop-packet-preserved : goal.loop-packet-preserved
loop-packet-preserved c =
    hashes-next c.args.packets.now c.loop-packet.packet-index _ c.loop-packet.hashes
    c.keep_hash.new.hashes
    c.loop-packet-test.true (c.loop-packet.auto.hashes ∙ c.requires.many) c.requires.flows
    c.loop-packet.invariant
    (c.keep_hash.ensures ∙ ap (with_hash c.loop-packet.hashes) c.packet-item.is)

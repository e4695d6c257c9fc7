use Rattle.std.proofs.Common.{arith, map, subst}
use Rattle.std.proofs.lemmas.List.{length-map}
use Rattle.pcap_reader.specs.Captures.{frame_of}
use Rattle.steer_model.proofs.Steps.ReadLemmas.{takes-by}
use Rattle.steer_model.specs.Capture.Packets.{ArePackets}
use Rattle.steer_top.proofs.CapturedFrames.{packets-captured}
use Rattle.steer_top.specs.declared.ending.Ending.TheVariants as ending
use Rattle.steer_top.specs.declared.ending.Role.TheVariants as role
use Rattle.steer_top.proofs.Commands.{stops_unread}
use Rattle.steer_top.proofs.file.take_packets.Goals as goal

pub returns-in_default-clause-ends : goal.returns-in_default-clause-ends
returns-in_default-clause-ends g c =
    let desk = c.args.desk.now in
    let name = c.args.name.now in
    stops_unread ending.OutOfMemory role.Capture name (g.D.Desk.held desk name)
    (g.D.Desk.faults desk) (g.D.Desk.faults desk) (g.D.Desk.asked desk) tt

pub returns-in-Err-into_packets-clause-ends : goal.returns-in-Err-into_packets-clause-ends
returns-in-Err-into_packets-clause-ends g c =
    let desk = c.args.desk.now in
    let name = c.args.name.now in
    stops_unread ending.OutOfMemory role.Capture name (g.D.Desk.held desk name)
    (g.D.Desk.faults desk) (g.D.Desk.faults c.take_frames.new.desk)
    (g.D.Desk.asked c.take_frames.new.desk) tt

pub returns-in-Ok-into_packets-clause-taken : goal.returns-in-Ok-into_packets-clause-taken
returns-in-Ok-into_packets-clause-taken g c =
    let plan = c.args.plan.now in
    let key = c.make-key.result in
    let is = c.in-Ok-take_frames.ensures.taken in
    let records = is.capture.records in
    let frames = map (frame_of is.bytes) records in
    let list = takes-by key plan.kinds c.in-Ok.packets frames _ c.in-Ok.ensures is.taken in
    let packets = c.in-Ok-into_packets.ensures.list key plan.kinds frames list in
    let captured = packets-captured key plan.kinds is.bytes is.capture
    c.in-Ok-into_packets.packets.items is.has packets in
    record {
      bytes = is.bytes;
      whole = is.whole;
      few = is.few;
      capture = is.capture;
      has = is.has;
      are_packets = subst (λ k. ArePackets k plan.kinds is.bytes records
          c.in-Ok-into_packets.packets.items) c.make-key.ensures captured;
      cut = is.cut_is;
      few_packets = omega (
        arith,
        packets.many,
        length-map records (frame_of is.bytes),
        is.few_records,
      );
      flows = c.in-Ok-into_packets.ensures.flows key plan.kinds frames list;
    }

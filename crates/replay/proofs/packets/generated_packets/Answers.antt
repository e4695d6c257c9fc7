use Rattle.std.proofs.Common.{Ok, arith, subst, sym}
use Rattle.pcap_reader.proofs.Rows.{within_result}
use Rattle.pcap_reader.specs.Writing.{capture_bytes, capture_of}
use Rattle.cap_gen.specs.Packets.{frames_of, packets_of}
use Rattle.cap_gen.proofs.Captures.{frames-many}
use Rattle.steer_model.proofs.Capture.RecordLemmas.{packets-of-frames}
use Rattle.steer_model.proofs.Steps.ReadLemmas.{takes-by}
use Rattle.steer_model.specs.Capture.Packets.{ArePackets, ArePacketsOfFrames}
use Rattle.replay.proofs.packets.generated_packets.Goals as goal

pub generate_frames-requires-clause-began : goal.generate_frames-requires-clause-began
generate_frames-requires-clause-began c =
    record {
      key = c.make-key.result;
      kinds = c.args.plan.now.kinds;
      empty = c.in_ok-list.ensures;
      is = c.in_ok-list.ensures;
    }

pub returns-clause-list : goal.returns-clause-list
returns-clause-list c =
    let seed = c.args.seed in
    let flows = c.args.flows in
    let n = c.args.packets in
    let key = c.make-key.result in
    let kinds = c.args.plan.now.kinds in
    let frames = frames_of seed flows n in
    let capture =
    c.a_generated_capture_has_its_frames.ensures seed flows n c.requires.few_packets in
    let taken = c.in_ok-generate_frames.ensures.frames in
    let list = takes-by key kinds _ frames _ c.in_ok-list.ensures taken in
    let packets = c.in_ok-packets.ensures.list key kinds frames list in
    subst (λ k. ArePackets k kinds (capture_bytes (packets_of seed flows n))
    (capture_of (packets_of seed flows n)).records c.in_ok-packets.packets.items)
    c.make-key.ensures
    (packets-of-frames key kinds _ _ _
    (subst (λ f. ArePacketsOfFrames key kinds f c.in_ok-packets.packets.items) (sym capture.1)
    packets)
    (within_result _ (Ok (capture_of (packets_of seed flows n))) capture.0))

pub returns-clause-few : goal.returns-clause-few
returns-clause-few c =
    let seed = c.args.seed in
    let flows = c.args.flows in
    let n = c.args.packets in
    let key = c.make-key.result in
    let kinds = c.args.plan.now.kinds in
    let frames = frames_of seed flows n in
    let taken = c.in_ok-generate_frames.ensures.frames in
    let list = takes-by key kinds _ frames _ c.in_ok-list.ensures taken in
    let packets = c.in_ok-packets.ensures.list key kinds frames list in
    omega (arith, packets.many, frames-many seed flows n, c.requires.few_packets)

pub returns-clause-of_flows : goal.returns-clause-of_flows
returns-clause-of_flows c =
    let key = c.make-key.result in
    let kinds = c.args.plan.now.kinds in
    let frames = frames_of c.args.seed c.args.flows c.args.packets in
    c.in_ok-packets.ensures.flows key kinds frames
    (takes-by key kinds _ frames _ c.in_ok-list.ensures c.in_ok-generate_frames.ensures.frames)

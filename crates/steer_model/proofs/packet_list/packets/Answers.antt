use Rattle.std.proofs.Common.{◌<◌, ◌≡◌, ◌∙◌, ap, arith, length, map, subst, sym}
use Rattle.steer_model.specs.Capture.PacketLists.{IsListOf}
use Rattle.steer_model.specs.Capture.Packets.{ArePacketsOfFrames, frame_of}
use Rattle.steer_model.proofs.Capture.RecordLemmas.{frames-all, frames-many, frames-more}
use Rattle.steer_model.proofs.Capture.RecordLemmas.{frames_before, packets-of-records}
use Rattle.steer_model.proofs.Steps.ReadLemmas.{takes-by}
use Rattle.steer_model.proofs.packet_list.packets.Goals as goal

pub take-requires-clause-room : goal.take-requires-clause-room
take-requires-clause-room c =
    let records = c.as_slice-records.result.now in
    let n = c.loop-from.from-index in
    let within : n < length records = omega arith in (
      c.in_ok-packets.packets,
      frames_before c.args.bytes.now records n,
      record {
        key = c.args.key.now;
        kinds = c.args.kinds.0;
        empty = c.in_ok-packets.ensures;
        is = c.loop-from.invariant;
      },
      omega (
        arith,
        frames-many c.args.bytes.now records n within,
        within,
        ap length c.as_slice-records.ensures,
        c.requires.few,
      ),
    )

pub loop-from-preserved : goal.loop-from-preserved
loop-from-preserved c =
    let bytes = c.args.bytes.now in
    let records = c.as_slice-records.result.now in
    let n = c.loop-from.from-index in
    let before = frames_before bytes records n in
    let within : n < length records = omega arith in
    let taken = c.in_ok-take.ensures c.in_ok-packets.packets before (record {
      key = c.args.key.now;
      kinds = c.args.kinds.0;
      empty = c.in_ok-packets.ensures;
      is = c.loop-from.invariant;
    }) in
    subst (λ frames. IsListOf c.args.key.now c.args.kinds.0 frames c.take.new.self)
    (sym (frames-more bytes records n _ within))
    (takes-by c.args.key.now c.args.kinds.0 c.in_ok-packets.packets _ c.take.new.self
    c.in_ok-packets.ensures taken)

pub returns-clause-list : goal.returns-clause-list
returns-clause-list c =
    let bytes = c.args.bytes.now in
    let records = c.as_slice-records.result.now in
    let all : c.loop-from.from-index ≡ length records = omega arith in
    let list =
    c.in_ok-packets-2.ensures.list c.args.key.now c.args.kinds.0 _ c.loop-from.invariant in
    let frames = ap (frames_before bytes records) all ∙ frames-all bytes records
    ∙ ap (map (frame_of bytes)) c.as_slice-records.ensures in
    packets-of-records c.args.key.now c.args.kinds.0 bytes c.args.capture.now.records
    c.in_ok-packets-2.packets.items
    (subst (λ f. ArePacketsOfFrames c.args.key.now c.args.kinds.0 f c.in_ok-packets-2.packets.items)
    frames list)
    c.requires.within

pub returns-clause-flows : goal.returns-clause-flows
returns-clause-flows c =
    c.in_ok-packets-2.ensures.flows c.args.key.now c.args.kinds.0 _ c.loop-from.invariant

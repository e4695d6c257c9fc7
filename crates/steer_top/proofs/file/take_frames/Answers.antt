use Rattle.std.proofs.Common.{Err, ap, arith, length, subst, sym}
use Rattle.std.proofs.lemmas.List.{length-map}
use Rattle.capture_stream.specs.Streams.{IsFaultOf}
use Rattle.pcap_reader.specs.Captures.{frame_of}
use Rattle.steer_top.specs.Endings.{EndsAt}
use Rattle.steer_top.specs.declared.ending.Role.TheVariants as role
use Rattle.steer_top.proofs.Commands.{stops_stream}
use Rattle.steer_top.proofs.file.take_frames.Goals as goal

pub returns-in-Ok-clause-taken : goal.returns-in-Ok-clause-taken
returns-in-Ok-clause-taken g c =
    let is = c.in-Ok.ensures.frames in
    let has = is.has in
    record {
      bytes = is.bytes;
      whole = is.whole;
      few = omega (arith, is.few, c.limit.ensures.value);
      capture = has.capture;
      has = has.has;
      taken = subst (λ frames. g.F.FrameSink.takes c.args.sink.now frames
          c.read_frames.new.sink) has.frames_are is.taken;
      cut_is = has.cut_is;
      few_records = omega (
        arith,
        has.few,
        ap length has.frames_are,
        length-map has.capture.records (frame_of is.bytes),
      );
    }

pub returns-in-Err-clause-ends : goal.returns-in-Err-clause-ends
returns-in-Err-clause-ends g c =
    let old = c.args.desk.now in
    let new = c.read_frames.new.desk in
    let name = c.args.name.now in
    let held = g.D.Desk.held old name in
    let is = subst (λ limit. IsFaultOf held limit c.in-Err.fault) c.limit.ensures.value
    c.in-Err.ensures.fault in
    subst (λ e. EndsAt e role.Capture name held (g.D.Desk.faults old) (g.D.Desk.faults new)
    (g.D.Desk.asked new)) (sym c.of_stream_fault.ensures)
    (stops_stream c.in-Err.fault name held (g.D.Desk.faults old) (g.D.Desk.faults new)
    (g.D.Desk.asked new) is (λ same. c.in-Err.ensures.unread (ap Err same))
    c.read_frames.ensures.asked)

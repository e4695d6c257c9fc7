use Rattle.std.proofs.Common.{◌∙◌, [], IfErr, IfOk, ap, arith, drop, length, subst}
use Rattle.capture_stream.specs.Captures.{TellsOf}
use Rattle.capture_stream.specs.Classic.{PassedClassic}
use Rattle.capture_stream.specs.Streams.{HasTaken, IsFaultOf}
use Rattle.capture_stream.proofs.BeginLemmas.{classic-begun}
use Rattle.capture_stream.proofs.reading.read_classic.Goals as goal

pub open-requires-clause-whole : goal.open-requires-clause-whole
open-requires-clause-whole g c = omega (arith, ap length c.bytes.ensures, c.requires.whole)

pub walk-requires-clause-begun : goal.walk-requires-clause-begun
walk-requires-clause-begun g c =
    let (named, begun) = c.requires.begun in
    let walker = c.in-Ok.walker in
    let passed = subst (λ bytes. PassedClassic walker bytes [] (drop 24 bytes))
    c.bytes.ensures c.in-Ok.ensures.passed in
    let under_way = classic-begun g.F.FrameSink.takes named (g.D.Desk.left c.args.desk.now)
    c.args.sink.now walker c.args.window.now c.pass.new.self begun passed
    c.pass.ensures.content c.pass.ensures.taken c.pass.ensures.limit c.requires.began in
    (named, c.args.sink.now, under_way)

pub returns-in-Ok-clause-frames : goal.returns-in-Ok-clause-frames
returns-in-Ok-clause-frames g c = λ named begun.
    let walker = c.in-Ok.walker in
    let passed = subst (λ bytes. PassedClassic walker bytes [] (drop 24 bytes))
    c.bytes.ensures c.in-Ok.ensures.passed in
    let under_way = classic-begun g.F.FrameSink.takes named (g.D.Desk.left c.args.desk.now)
    c.args.sink.now walker c.args.window.now c.pass.new.self begun passed
    c.pass.ensures.content c.pass.ensures.taken c.pass.ensures.limit c.requires.began in
    subst (λ limit. IfOk c.walk.result (λ cut. HasTaken g.F.FrameSink.takes named limit
    c.args.sink.now cut c.walk.new.sink))
    c.pass.ensures.limit (c.walk.ensures.frames named c.args.sink.now under_way)

pub returns-in-Ok-clause-fault : goal.returns-in-Ok-clause-fault
returns-in-Ok-clause-fault g c = λ named begun.
    let walker = c.in-Ok.walker in
    let passed = subst (λ bytes. PassedClassic walker bytes [] (drop 24 bytes))
    c.bytes.ensures c.in-Ok.ensures.passed in
    let under_way = classic-begun g.F.FrameSink.takes named (g.D.Desk.left c.args.desk.now)
    c.args.sink.now walker c.args.window.now c.pass.new.self begun passed
    c.pass.ensures.content c.pass.ensures.taken c.pass.ensures.limit c.requires.began in
    subst (λ limit. IfErr c.walk.result (IsFaultOf named limit))
    c.pass.ensures.limit (c.walk.ensures.fault named c.args.sink.now under_way)

pub read_out-requires-clause-tells : goal.read_out-requires-clause-tells
read_out-requires-clause-tells g c =
    let (named, begun) = c.requires.begun in (
      named,
      begun.bytes,
      begun.are_read,
      subst (λ bytes. TellsOf bytes c.in-Err.fault)
          (c.bytes.ensures ∙ begun.all) c.in-Err.ensures.fault,
    )

pub returns-in-Err-clause-fault : goal.returns-in-Err-clause-fault
returns-in-Err-clause-fault g c = λ named begun.
    let tells = subst (λ bytes. TellsOf bytes c.in-Err.fault)
    (c.bytes.ensures ∙ begun.all) c.in-Err.ensures.fault in
    c.read_out.ensures.fault named begun.bytes begun.are_read tells

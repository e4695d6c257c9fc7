use Rattle.std.proofs.Common.{◌∙◌, IfErr, IfOk, ap, arith, length, subst}
use Rattle.std.proofs.Common.{sym}
use Rattle.std.proofs.KnownBytes.{Keeps-refl}
use Rattle.std.proofs.lemmas.Bool.{false≢true}
use Rattle.std.proofs.lemmas.Result.{err_from_is_err_and}
use Rattle.pcapng_reader.specs.Captures.{BeginsNg}
use Rattle.capture_stream.specs.Streams.{HasTaken, IsFaultOf}
use Rattle.capture_stream.specs.Windows.{content}
use Rattle.capture_stream.proofs.BeginLemmas.{ng-begun}
use Rattle.capture_stream.proofs.PieceLemmas.{begun-empty}
use Rattle.capture_stream.proofs.reading.read_begun.Goals as goal

pub returns-in_err-enough-clause-fault : goal.returns-in_err-enough-clause-fault
returns-in_err-enough-clause-fault g c = λ named kept.
    let left = g.D.Desk.left in
    let begun = begun-empty named (left c.args.desk.now) c.new-window.result kept
    c.new-window.ensures.empty c.new-window.ensures.taken in
    let e = err_from_is_err_and c.from_residual.result c.from_residual.ensures.1 in
    rw (e.1, e.2) (subst (λ limit. IsFaultOf named limit c.in_err-enough.field-0.0)
    c.new-window.ensures.limit (c.in_err-enough.ensures.fault named begun))

pub walk-requires-clause-begun : goal.walk-requires-clause-begun
walk-requires-clause-begun g c =
    let named = g.D.Desk.left c.args.desk.now in
    let kept = Keeps-refl named in
    let left = g.D.Desk.left in
    let filled = c.in_ok-enough.ensures.filled named (begun-empty named (left c.args.desk.now)
    c.new-window.result kept c.new-window.ensures.empty c.new-window.ensures.taken) in
    let begins = subst BeginsNg c.bytes.ensures (c.is_pcapng.ensures.0 c.if-is_pcapng.true) in
    let begun = ng-begun g.F.FrameSink.takes named (left c.fill.new.desk) c.args.sink.now
    c.new.result c.fill.new.window filled.begun begins c.new.ensures.passed c.requires.began in
    (named, c.args.sink.now, begun)

pub returns-then-is_pcapng-clause-frames : goal.returns-then-is_pcapng-clause-frames
returns-then-is_pcapng-clause-frames g c = λ named kept.
    let left = g.D.Desk.left in
    let filled = c.in_ok-enough.ensures.filled named (begun-empty named (left c.args.desk.now)
    c.new-window.result kept c.new-window.ensures.empty c.new-window.ensures.taken) in
    let begins = subst BeginsNg c.bytes.ensures (c.is_pcapng.ensures.0 c.if-is_pcapng.true) in
    let begun = ng-begun g.F.FrameSink.takes named (left c.fill.new.desk) c.args.sink.now
    c.new.result c.fill.new.window filled.begun begins c.new.ensures.passed c.requires.began in
    subst (λ limit. IfOk c.walk.result (λ cut. HasTaken g.F.FrameSink.takes named limit
    c.args.sink.now cut c.walk.new.sink))
    (c.in_ok-enough.ensures.limit ∙ c.new-window.ensures.limit)
    (c.walk.ensures.frames named c.args.sink.now begun)

pub returns-then-is_pcapng-clause-fault : goal.returns-then-is_pcapng-clause-fault
returns-then-is_pcapng-clause-fault g c = λ named kept.
    let left = g.D.Desk.left in
    let filled = c.in_ok-enough.ensures.filled named (begun-empty named (left c.args.desk.now)
    c.new-window.result kept c.new-window.ensures.empty c.new-window.ensures.taken) in
    let begins = subst BeginsNg c.bytes.ensures (c.is_pcapng.ensures.0 c.if-is_pcapng.true) in
    let begun = ng-begun g.F.FrameSink.takes named (left c.fill.new.desk) c.args.sink.now
    c.new.result c.fill.new.window filled.begun begins c.new.ensures.passed c.requires.began in
    subst (λ limit. IfErr c.walk.result (IsFaultOf named limit))
    (c.in_ok-enough.ensures.limit ∙ c.new-window.ensures.limit)
    (c.walk.ensures.fault named c.args.sink.now begun)

pub returns-then-not-enough-clause-fault : goal.returns-then-not-enough-clause-fault
returns-then-not-enough-clause-fault g c = λ named kept.
    let left = g.D.Desk.left in
    let filled = c.in_ok-enough.ensures.filled named (begun-empty named (left c.args.desk.now)
    c.new-window.result kept c.new-window.ensures.empty c.new-window.ensures.taken) in
    let none : BeginsNg (content c.fill.new.window) → ⊥ = λ begins.
    absurd (false≢true (sym c.if-is_pcapng.false
    ∙ c.is_pcapng.ensures.1 (subst BeginsNg (sym c.bytes.ensures) begins))) in
    let read = filled.begun.are_read in
    let size = ap length c.bytes-len.ensures in (
      content c.fill.new.window,
      filled.whole c.if-not-enough.true,
      omega (
        arith,
        ap length filled.begun.all,
        read.taken,
        read.few,
        c.in_ok-enough.ensures.limit,
        c.new-window.ensures.limit,
      ),
      (none, (size, omega (arith, size, filled.short c.if-not-enough.true))),
    )

pub read_classic-requires-clause-whole : goal.read_classic-requires-clause-whole
read_classic-requires-clause-whole g c =
    let named = g.D.Desk.left c.args.desk.now in
    let kept = Keeps-refl named in
    let left = g.D.Desk.left in
    let filled = c.in_ok-enough.ensures.filled named (begun-empty named (left c.args.desk.now)
    c.new-window.result kept c.new-window.ensures.empty c.new-window.ensures.taken) in
    filled.has c.if-not-enough.false

pub read_classic-requires-clause-classic : goal.read_classic-requires-clause-classic
read_classic-requires-clause-classic g c = λ begins.
    absurd (false≢true (sym c.if-is_pcapng.false
    ∙ c.is_pcapng.ensures.1 (subst BeginsNg (sym c.bytes.ensures) begins)))

pub read_classic-requires-clause-begun : goal.read_classic-requires-clause-begun
read_classic-requires-clause-begun g c =
    let named = g.D.Desk.left c.args.desk.now in
    let kept = Keeps-refl named in
    let left = g.D.Desk.left in
    let filled = c.in_ok-enough.ensures.filled named (begun-empty named (left c.args.desk.now)
    c.new-window.result kept c.new-window.ensures.empty c.new-window.ensures.taken) in
    (named, filled.begun)

pub returns-clause-frames : goal.returns-clause-frames
returns-clause-frames g c = λ named kept.
    let left = g.D.Desk.left in
    let filled = c.in_ok-enough.ensures.filled named (begun-empty named (left c.args.desk.now)
    c.new-window.result kept c.new-window.ensures.empty c.new-window.ensures.taken) in
    subst (λ limit. IfOk c.read_classic.result (λ cut. HasTaken g.F.FrameSink.takes named
    limit c.args.sink.now cut c.read_classic.new.sink))
    (c.in_ok-enough.ensures.limit ∙ c.new-window.ensures.limit)
    (c.read_classic.ensures.frames named filled.begun)

pub returns-clause-fault : goal.returns-clause-fault
returns-clause-fault g c = λ named kept.
    let left = g.D.Desk.left in
    let filled = c.in_ok-enough.ensures.filled named (begun-empty named (left c.args.desk.now)
    c.new-window.result kept c.new-window.ensures.empty c.new-window.ensures.taken) in
    subst (λ limit. IfErr c.read_classic.result (IsFaultOf named limit))
    (c.in_ok-enough.ensures.limit ∙ c.new-window.ensures.limit)
    (c.read_classic.ensures.fault named filled.begun)

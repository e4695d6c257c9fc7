use Rattle.std.proofs.Common.{◌≡◌, ◌+◌, ◌∙◌, ◌++◌, length, subst, sym}
use Rattle.std.proofs.Common.{arith, ap, drop, length-take, length-drop, ◌-◌}
use Rattle.std.proofs.lemmas.Result.{err_from_is_err_and}
use Rattle.capture_stream.specs.Captures.{HasFrames}
use Rattle.capture_stream.specs.Streams.{IsFaultOf}
use Rattle.capture_stream.specs.Walks.{cut_of}
use Rattle.capture_stream.specs.Windows.{content}
use Rattle.capture_stream.proofs.PieceLemmas.{read-more, told-on, whole-read, window-small}
use Rattle.capture_stream.proofs.PieceLemmas.{stop-is}
use Rattle.capture_stream.proofs.reading.walk.Goals as goal

pub next-requires : goal.next-requires
next-requires g c =
    let (named, first, began) = c.requires.begun in
    let now = c.loop-start.invariant.begun named first began in (
      now.bytes,
      now.frames,
      subst (g.W.Walk.passed c.loop-start.walker now.bytes now.frames) (sym c.bytes.ensures)
          now.is_passed,
      omega (arith, now.are_read.taken, now.are_read.few, c.loop-start.window.small),
    )

pub take-requires-clause-room : goal.take-requires-clause-room
take-requires-clause-room g c =
    let (named, first, began) = c.requires.begun in
    let now = c.loop-start.invariant.begun named first began in
    let (some, within, inside, found) = rw c.in-Ok-Frame.field-0-is at c.in-Ok-Frame.ensures in
    let next = found now.bytes now.frames
    (subst (g.W.Walk.passed c.loop-start.walker now.bytes now.frames) (sym c.bytes.ensures)
    now.is_passed) in
    (first, now.frames, now.taken, next.0)

pub take-requires-clause-small : goal.take-requires-clause-small
take-requires-clause-small g c =
    let start = c.in-Ok-Frame.start in
    let window = c.bytes-in-Ok-Frame.result.now in
    omega (
      arith,
      length-take ((start + c.in-Ok-Frame.len) - start) (drop start window),
      length-drop start window,
      ap length c.bytes-in-Ok-Frame.ensures,
      window-small c.loop-start.window,
    )

pub returns-in_err-more-in-Ok-Incomplete-clause-fault :
    goal.returns-in_err-more-in-Ok-Incomplete-clause-fault
returns-in_err-more-in-Ok-Incomplete-clause-fault g c = λ named first is.
    let left = g.D.Desk.left in
    let now = c.loop-start.invariant.begun named first is in
    let e = err_from_is_err_and c.from_residual-in_err-more-in-Ok-Incomplete.result
    c.from_residual-in_err-more-in-Ok-Incomplete.ensures.1 in
    let stops = subst (λ limit. IsFaultOf named limit c.in_err-more-in-Ok-Incomplete.field-0.0)
    c.loop-start.invariant.limit
    (stop-is named (left c.loop-start.desk) (left c.more.new.desk) c.loop-start.window
    c.more.new.self now.bytes c.in_err-more-in-Ok-Incomplete.field-0.0 now.are_read
    c.in_err-more-in-Ok-Incomplete.ensures.grows) in
    rw (e.1, e.2) stops

pub cut_of-requires : goal.cut_of-requires
cut_of-requires g c =
    omega (arith, ap length c.bytes-then-not-branch.ensures, window-small c.more.new.self)

pub returns-then-not-branch-clause-frames : goal.returns-then-not-branch-clause-frames
returns-then-not-branch-clause-frames g c = λ named first is.
    let left = g.D.Desk.left c.loop-start.desk in
    let now = c.loop-start.invariant.begun named first is in
    let (ended, kept, same, taken, limit) =
    rw c.if-not-branch.true at c.in_ok-more-in-Ok-Incomplete.ensures.grows in
    let (still, found) = rw c.in-Ok-Incomplete.field-0-is at c.in-Ok-Incomplete.ensures in
    let cut : cut_of c.bytes.result.now ≡ c.cut_of.result =
    ap cut_of (c.bytes.ensures ∙ sym same ∙ sym c.bytes-then-not-branch.ensures)
    ∙ sym c.cut_of.ensures in
    let passed = subst (g.W.Walk.passed c.loop-start.walker now.bytes now.frames)
    (sym c.bytes.ensures) now.is_passed in
    record {
      bytes = now.bytes;
      whole = whole-read named left now.bytes now.are_read.read ended;
      few = omega (arith, now.are_read.taken, now.are_read.few, c.loop-start.invariant.limit);
      frames = now.frames;
      has = subst (HasFrames now.bytes now.frames) cut (found now.bytes now.frames passed);
      taken = now.taken;
    }

pub loop-start-preserved : goal.loop-start-preserved
loop-start-preserved g c =
    let left = g.D.Desk.left in
    let had = c.loop-start.invariant in
    let (piece, some, more, grown, taken, few, limit) =
    rw c.if-not-branch.false at c.in_ok-more-in-Ok-Incomplete.ensures.grows in
    let (still, found) = rw c.in-Ok-Incomplete.field-0-is at c.in-Ok-Incomplete.ensures in
    record {
      begun = λ named first is.
          let now = had.begun named first is in
          let on = c.goes_on.ensures now.bytes now.frames (content c.loop-start.window) piece
          now.is_passed in
          record {
            bytes = now.bytes ++ piece;
            frames = now.frames;
            are_read = read-more named (left c.loop-start.desk) (left c.more.new.desk)
                c.loop-start.window c.more.new.self now.bytes piece now.are_read more taken few;
            is_passed = subst (λ w. g.W.Walk.passed w (now.bytes ++ piece) now.frames
                (content c.more.new.self)) (sym still)
                (subst (g.W.Walk.passed c.loop-start.walker (now.bytes ++ piece) now.frames)
                (sym grown) on);
            taken = now.taken;
          };
      limit = limit ∙ had.limit;
      piece = omega (arith, c.more.ensures.piece, had.piece);
      held = c.more.ensures.held ∙ had.held;
      asked = c.more.ensures.asked ∙ had.asked;
      later = omega (arith, c.more.ensures.later, had.later);
      told = told-on (left c.args.desk.now) (left c.loop-start.desk) (left c.more.new.desk)
          had.told c.more.ensures.told;
    }

pub read_out-requires-clause-tells : goal.read_out-requires-clause-tells
read_out-requires-clause-tells g c =
    let (named, first, began) = c.requires.begun in
    let now = c.loop-start.invariant.begun named first began in
    let passed = subst (g.W.Walk.passed c.loop-start.walker now.bytes now.frames)
    (sym c.bytes.ensures) now.is_passed in
    (named, now.bytes, now.are_read, c.in-Err.ensures now.bytes now.frames passed)

pub returns-in-Err-clause-fault : goal.returns-in-Err-clause-fault
returns-in-Err-clause-fault g c = λ named first is.
    let now = c.loop-start.invariant.begun named first is in
    let passed = subst (g.W.Walk.passed c.loop-start.walker now.bytes now.frames)
    (sym c.bytes.ensures) now.is_passed in
    subst (λ limit. IsFaultOf named limit c.read_out.result) c.loop-start.invariant.limit
    (c.read_out.ensures.fault named now.bytes now.are_read
    (c.in-Err.ensures now.bytes now.frames passed))

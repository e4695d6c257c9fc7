use Rattle.std.proofs.Common.{◌∙◌, ◌++◌, [], refl, subst, arith, ap}
use Rattle.std.proofs.lemmas.List.{append_assoc}
use Rattle.capture_stream.specs.Captures.{TellsOf}
use Rattle.capture_stream.specs.Streams.{AreRead, IsFaultOf}
use Rattle.capture_stream.proofs.PieceLemmas.{fault-is, read-more, read-still, told-on, whole-read}
use Rattle.capture_stream.proofs.PieceLemmas.{stop-is}
use Rattle.capture_stream.proofs.reading.read_out.Goals as goal

pub loop-fault-preserved : goal.loop-fault-preserved
loop-fault-preserved g c =
    let left = g.D.Desk.left in
    let had = c.loop-fault.invariant in
    let (piece, some, more, grown, taken, few, limit) =
    rw c.in-Ok-true.field-0-test at c.in-Ok-true.ensures.grows in
    record {
      read = λ named bytes is.
          let (before, are) = had.read named bytes is in
          let still = read-still named (left c.loop-fault.desk) c.loop-fault.window c.pass.new.self
          (bytes ++ before) are c.pass.ensures.taken c.pass.ensures.limit in
          let next = read-more named (left c.loop-fault.desk) (left c.more.new.desk)
          c.pass.new.self c.more.new.self (bytes ++ before) piece still more taken few in (
            before ++ piece,
            subst (AreRead named (left c.more.new.desk) c.more.new.self)
                (append_assoc bytes before piece) next,
          );
      same = refl;
      limit = limit ∙ c.pass.ensures.limit ∙ had.limit;
      piece = omega (arith, c.more.ensures.piece, had.piece);
      held = c.more.ensures.held ∙ had.held;
      asked = c.more.ensures.asked ∙ had.asked;
      later = omega (arith, c.more.ensures.later, had.later);
      told = told-on (left c.args.desk.now) (left c.loop-fault.desk) (left c.more.new.desk)
          had.told c.more.ensures.told;
    }

pub returns-in-Ok-false-clause-fault : goal.returns-in-Ok-false-clause-fault
returns-in-Ok-false-clause-fault g c = λ named bytes is tells.
    let left = g.D.Desk.left c.loop-fault.desk in
    let (before, are) = c.loop-fault.invariant.read named bytes is in
    let ended = rw c.in-Ok-false.field-0-test at c.in-Ok-false.ensures.grows in
    fault-is named c.args.window.now.limit bytes before c.args.fault
    (whole-read named left (bytes ++ before) are.read ended.0)
    (omega (arith, are.taken, are.few, ap (λ n. n) c.loop-fault.invariant.limit)) tells

pub returns-in-Ok-false-clause-unread : goal.returns-in-Ok-false-clause-unread
returns-in-Ok-false-clause-unread g c = λ is.
    let (named, bytes, are, tells) = c.requires.tells in
    absurd ((subst (TellsOf bytes) is tells) [])

pub returns-in-Err-clause-fault : goal.returns-in-Err-clause-fault
returns-in-Err-clause-fault g c = λ named bytes is tells.
    let left = g.D.Desk.left in
    let (before, are) = c.loop-fault.invariant.read named bytes is in
    let still = read-still named (left c.loop-fault.desk) c.loop-fault.window c.pass.new.self
    (bytes ++ before) are c.pass.ensures.taken c.pass.ensures.limit in
    subst (λ limit. IsFaultOf named limit c.in-Err.stop)
    (c.pass.ensures.limit ∙ c.loop-fault.invariant.limit)
    (stop-is named (left c.loop-fault.desk) (left c.more.new.desk) c.pass.new.self
    c.more.new.self (bytes ++ before) c.in-Err.stop still c.in-Err.ensures.grows)

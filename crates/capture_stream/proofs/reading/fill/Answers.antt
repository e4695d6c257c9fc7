use Rattle.std.proofs.Common.{◌∙◌, length, subst, ap, arith}
use Rattle.std.proofs.lemmas.Bool.{false≢true}
use Rattle.std.proofs.lemmas.Result.{err_from_is_err_and}
use Rattle.capture_stream.specs.Streams.{IsFaultOf}
use Rattle.capture_stream.proofs.PieceLemmas.{consumes-kept, keeps-content, stop-is, whole-read}
use Rattle.capture_stream.proofs.reading.fill.Goals as goal

pub returns-in_err-more-clause-fault : goal.returns-in_err-more-clause-fault
returns-in_err-more-clause-fault g c = λ named is.
    let left = g.D.Desk.left in
    let now = c.loop-window.invariant.begun named is in
    let e = err_from_is_err_and c.from_residual.result c.from_residual.ensures.1 in
    let stops = subst (λ limit. IsFaultOf named limit c.in_err-more.field-0.0)
    c.loop-window.invariant.limit
    (stop-is named (left c.loop-window.desk) (left c.more.new.desk) c.loop-window.window
    c.more.new.self now.bytes c.in_err-more.field-0.0 now.are_read
    c.in_err-more.ensures.grows) in
    rw (e.1, e.2) stops

pub returns-then-not-branch-clause-filled : goal.returns-then-not-branch-clause-filled
returns-then-not-branch-clause-filled g c = λ named is.
    let left = g.D.Desk.left in
    let now = c.loop-window.invariant.begun named is in
    let (ended, kept, same, taken, limit) =
    rw c.if-not-branch.true at c.in_ok-more.ensures.grows in
    let all = same ∙ now.all in
    record {
      begun = record {
        bytes = now.bytes;
        are_read = record {
          read = consumes-kept named (left c.loop-window.desk) (left c.more.new.desk) now.bytes
              now.are_read.read kept;
          taken = taken ∙ now.are_read.taken;
          few = omega (arith, taken, limit, now.are_read.few);
        };
        all = all;
      };
      has = λ no. absurd (false≢true no);
      short = λ _. omega (
        arith,
        c.loop-window-test.true,
        ap length c.bytes.ensures,
        ap length same,
      );
      whole = λ _. keeps-content named now.bytes _ all
          (whole-read named (left c.loop-window.desk) now.bytes now.are_read.read ended);
    }

use Rattle.std.proofs.Common.{sym, arith, length}
use Rattle.history_check.specs.Tests.{is_polled}
use Rattle.history_check.proofs.PassingLemmas.{fails-below, all-below}
use Rattle.history_check.proofs.polling.all_are_polled.Goals as goal

pub returns-then-not-is_polled : goal.returns-then-not-is_polled
returns-then-not-is_polled c =
    sym (fails-below (is_polled c.args.h.now) (length c.args.h.now.taken) c.loop-queue.queue
    (omega (arith, c.loop-queue-test.true, c.len-queue-end.ensures))
    (sym c.if-not-is_polled.ensures))

pub returns : goal.returns
returns c =
    sym (all-below (is_polled c.args.h.now) (length c.args.h.now.taken)
    (λ k l. c.loop-queue.invariant k
    (omega (arith, l, c.loop-queue-test.false, c.len-queue-end.ensures))))

use Rattle.std.proofs.Common.{sym, arith}
use Rattle.history_check.specs.Tests.{has_replies}
use Rattle.history_check.proofs.PassingLemmas.{fails-below, all-below}
use Rattle.history_check.proofs.item_test.ItemTest.have_replies.Goals as goal

pub returns-then-not-has_replies : goal.returns-then-not-has_replies
returns-then-not-has_replies c =
    let test = c.args.self.now in
    sym (fails-below (has_replies test.packets.now test.h.now) test.apps c.loop-app.app
    (omega (arith, c.loop-app-test.true)) (sym c.if-not-has_replies.ensures))

pub returns : goal.returns
returns c =
    let test = c.args.self.now in
    sym (all-below (has_replies test.packets.now test.h.now) test.apps
    (λ k l. c.loop-app.invariant k (omega (arith, l, c.loop-app-test.false))))

use Rattle.std.proofs.Common.{◌≡◌, ◌+◌, ◌<◌, length, arith, rules}
use Rattle.history.specs.declared.lines.in_order.TheConstants.{AHEAD}
use Rattle.history.proofs.InOrderLemmas.{replies-next}
use Rattle.history.proofs.lines.in_order.look_up_replies.Goals as goal

pub loop-k-preserved : goal.loop-k-preserved
loop-k-preserved c =
    let lines = c.args.lines.now.replies in
    let first = c.args.first in
    let k = c.loop-k.k in
    let size : length c.loop-k.replies ≡ AHEAD = search rules in
    let few : k < AHEAD = omega (arith, c.loop-k-test.true, c.min-known.ensures) in
    let within : first + k < length lines =
    omega (arith, c.loop-k-test.true, c.min-known.ensures, c.arrived.ensures.replies) in
    replies-next lines first k c.loop-k.replies c.begun.result size few within c.loop-k.invariant
    c.begun.ensures

use Rattle.std.proofs.Common.{◌+◌, ◌<◌, ◌∙◌, length, arith}
use Rattle.std.proofs.lemmas.List.{length-set}
use Rattle.history.specs.declared.lines.in_order.TheConstants.{AHEAD}
use Rattle.history.proofs.InOrderLemmas.{lanes-next}
use Rattle.history.proofs.lines.in_order.look_up_lanes.Goals as goal

pub loop-k-preserved : goal.loop-k-preserved
loop-k-preserved c =
    let lines = c.args.lines.now.packets in
    let first = c.args.first in
    let k = c.loop-k.k in
    let size = c.loop-k.invariant.size in
    let few : k < AHEAD = omega (arith, c.loop-k-test.true, c.min-known.ensures) in
    let within : first + k < length lines =
    omega (arith, c.loop-k-test.true, c.min-known.ensures, c.arrived.ensures.packets) in
    record {
      size = length-set c.loop-k.lanes k c.lane.result ∙ size;
      lanes = lanes-next lines first k c.loop-k.lanes c.lane.result size few within
          c.loop-k.invariant.lanes c.lane.ensures;
    }

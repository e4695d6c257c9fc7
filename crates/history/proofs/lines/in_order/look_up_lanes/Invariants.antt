use Rattle.std.proofs.Common.{◌≡◌, length}
use Rattle.history.specs.InOrder.{AreLanes}
use Rattle.history.specs.declared.lines.in_order.TheConstants.{AHEAD}
use Rattle.history.proofs.lines.in_order.look_up_lanes.Given as goal

-- so many processors are looked up
abbrev pub invariant-loop-k : goal.invariant-loop-k
invariant-loop-k l = record {
  size : length l.lanes ≡ AHEAD;
  lanes : AreLanes l.lines.packets l.first l.k l.lanes;
}

use Rattle.std.proofs.Common.{below_more}
use Rattle.hop_core.proofs.Empties.{head_is_tail}
use Rattle.hop_core.proofs.hop.Hop.is_empty.Goals as goal

pub loop-lane-preserved : goal.loop-lane-preserved
loop-lane-preserved c =
    let s = c.args.self.now in
    let sound = rw c.self.view_is at c.self.invariant.sound in
    let same = rw (c.head-head.ensures, c.tail-tail.ensures) at c.if-head-tail.false in
    below_more _ _ c.loop-lane.invariant (head_is_tail s c.loop-lane.lane sound same)

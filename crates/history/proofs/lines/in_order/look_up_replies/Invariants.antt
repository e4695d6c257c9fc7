use Rattle.history.specs.InOrder.{AreBegun}
use Rattle.history.proofs.lines.in_order.look_up_replies.Given as goal

-- so many replies are looked up
abbrev pub invariant-loop-k : goal.invariant-loop-k
invariant-loop-k l = AreBegun l.lines.replies l.first l.k l.replies

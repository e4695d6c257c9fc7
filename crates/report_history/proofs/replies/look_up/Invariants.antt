use Rattle.report_history.specs.Ahead.{AreAhead}
use Rattle.report_history.proofs.replies.look_up.Given as goal

-- so many packets are looked up
abbrev pub invariant-loop-k : goal.invariant-loop-k
invariant-loop-k l = AreAhead l.seen l.packets l.ids l.first l.k l.ahead

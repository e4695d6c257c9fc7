-- What the lists are that a run leaves.
use Rattle.std.specs.Prelude.{◌≡◌, length}
use Rattle.steer_model.specs.Good.Inputs.{Input}
use Rattle.run_crew.specs.RunLaws.{RunEnds}
use Rattle.workers.specs.declared.start.Run.{Run}
use Rattle.workers.specs.Left.{IsLeft, history_of}
use Rattle.workers.specs.Overs.{IsOver}
use Rattle.workers.specs.declared.closing.Left.{Left}

-- The lists that a run leaves, which is over, make a history of which all is known that is known at
-- the end of a run.
abbrev pub LeftListsMakeHistories : Type 0
LeftListsMakeHistories =
    (i : Input) (s : Run) (left : Left) → IsOver i s
    → IsLeft s (length i.plan.queues) (length i.plan.apps) left
    → RunEnds i (history_of (length i.packets) i.cut i.plan.start left)

-- The transmit board leaves one list of what went out: the port's.
abbrev pub OneListIsLeft : Type 0
OneListIsLeft =
    (i : Input) (s : Run) (left : Left) → IsOver i s
    → IsLeft s (length i.plan.queues) (length i.plan.apps) left → length left.tx.outs ≡ 1

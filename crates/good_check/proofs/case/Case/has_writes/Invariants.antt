use Rattle.std.proofs.Common.{ℕ, ◌<◌}
use Rattle.history.specs.Lists.{list_at}
use Rattle.steer_model.specs.Good.Writes.{AreWrites}
use Rattle.good_check.specs.Cases.{input}
use Rattle.good_check.proofs.case.Case.has_writes.Given as goal

abbrev pub invariant-loop-a : goal.invariant-loop-a
invariant-loop-a l = (a : ℕ) → a < l.a
    → AreWrites (input l.self.plan.now l.self.given.now.packets l.self.given.now.cut) l.self.h.now a
    (list_at l.self.h.now.inboxes a) (list_at l.self.h.now.writes a)

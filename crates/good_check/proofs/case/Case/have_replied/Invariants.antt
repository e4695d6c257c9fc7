use Rattle.std.proofs.Common.{ℕ, ◌<◌}
use Rattle.good_check.specs.Replies.{HasReplied}
use Rattle.good_check.proofs.case.Case.have_replied.Given as goal

abbrev pub invariant-loop-a : goal.invariant-loop-a
invariant-loop-a l = (b : ℕ) → b < l.a
    → HasReplied l.self.given.now l.self.settings.now l.self.h.now l.flows b

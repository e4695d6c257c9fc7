use Rattle.std.proofs.Common.{ℕ, ◌≡◌, take}
use Rattle.rule_check.specs.Pairs.{has_pair}
use Rattle.good_check.specs.Queues.{is_asked_for}
use Rattle.good_check.proofs.case.Case.filters.Given as goal

abbrev pub invariant-loop-choices : goal.invariant-loop-choices
invariant-loop-choices l = (n m : ℕ) → has_pair l.set n m
    ≡ is_asked_for l.self.given.now l.self.h.now l.self.plan.now.filters n m
    (take l.choices-index l.self.h.now.choices)

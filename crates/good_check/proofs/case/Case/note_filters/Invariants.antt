use Rattle.std.proofs.Common.{ℕ, ◌≡◌, take}
use Rattle.std.specs.Prelude.{◌||◌}
use Rattle.std.specs.List.{list_any}
use Rattle.rule_check.specs.Pairs.{has_pair}
use Rattle.good_check.specs.Queues.{asks_for}
use Rattle.good_check.proofs.case.Case.note_filters.Given as goal

abbrev pub invariant-loop-chosen : goal.invariant-loop-chosen
invariant-loop-chosen l = (n m : ℕ) → has_pair l.set n m
    ≡ (has_pair l.initial.set n m
    || list_any (asks_for l.self.given.now l.self.h.now l.self.plan.now.filters n m)
    (take l.chosen-index l.choices))

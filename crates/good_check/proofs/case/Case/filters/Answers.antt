use Rattle.std.proofs.Common.{◌∙◌}
use Rattle.std.specs.List.{list_any}
use Rattle.rule_check.specs.Pairs.{has_pair}
use Rattle.good_check.specs.Queues.{asks_for}
use Rattle.good_check.proofs.ListLemmas.{any-next}
use Rattle.good_check.proofs.case.Case.filters.Goals as goal

pub loop-choices-preserved : goal.loop-choices-preserved
loop-choices-preserved c = λ n m.
    let own = c.args.self.now in
    c.in_ok-note_filters.ensures n m
    ∙ any-next
    (λ cs. list_any (asks_for own.given.now own.h.now own.plan.now.filters n m) cs)
    c.as_slice-choices-items.result.now own.h.now.choices c.loop-choices.choices-index
    c.choices-item.result (has_pair c.loop-choices.set n m) c.as_slice-choices-items.ensures
    c.loop-choices-test.true c.choices-item.is (c.loop-choices.invariant n m)

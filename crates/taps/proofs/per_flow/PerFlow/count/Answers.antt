use Rattle.std.proofs.Common.{◌∙◌, ap, rules}
use Rattle.std.proofs.lemmas.Result.{on_err_weaker, on_ok_weaker}
use Rattle.indexmap.specs.IndexMap.{set_value_at}
use Rattle.taps.proofs.CountsLemmas.{counted_at, same_at}
use Rattle.taps.proofs.per_flow.PerFlow.count.Goals as goal

pub returns-in-Some-clause-noted : goal.returns-in-Some-clause-noted
returns-in-Some-clause-noted c =
    let es = c.args.self.now.counts.entries in
    let at = c.pair_mut.ensures in
    on_ok_weaker c.increment.result
    (λ more. ap (set_value_at es c.args.flow) more
    ∙ counted_at es c.args.flow c.args.flow _ at.unique (search rules))
    c.increment.ensures.counted

pub returns-in-Some-clause-kept : goal.returns-in-Some-clause-kept
returns-in-Some-clause-kept c =
    let es = c.args.self.now.counts.entries in
    on_err_weaker c.increment.result
    (λ full. ap (set_value_at es c.args.flow) full.1
    ∙ same_at es c.args.flow _ _ c.pair_mut.ensures.value)
    c.increment.ensures.full

use Rattle.std.proofs.Common.{◌∙◌, rules}
use Rattle.std.proofs.lemmas.Result.{on_err_weaker}
use Rattle.taps.proofs.CountsLemmas.{full_by_flow}
use Rattle.taps.proofs.per_flow.PerFlow.count_by_key.Goals as goal

pub returns-in-Ok-clause-kept : goal.returns-in-Ok-clause-kept
returns-in-Ok-clause-kept c =
    let es = c.args.self.now.counts.entries in
    on_err_weaker c.increment.result
    (λ full. search rules ∙ full_by_flow es c.args.flow _ c.increment.new.count full (search rules))
    c.increment.ensures.full

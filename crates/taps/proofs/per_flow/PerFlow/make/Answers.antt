use Rattle.std.proofs.Common.{ap, ◌∙◌}
use Rattle.taps.specs.Flows.{flows_of}
use Rattle.taps.specs.PerFlow.{counts_after, rows_of_counts}
use Rattle.taps.proofs.FlowsLemmas.{rows_of_flows}
use Rattle.taps.proofs.per_flow.PerFlow.make.Goals as goal

pub returns : goal.returns
returns c = λ lines. ap (λ counts. rows_of_counts (counts_after counts (flows_of lines)))
    c.new.ensures.empty ∙ rows_of_flows (flows_of lines)

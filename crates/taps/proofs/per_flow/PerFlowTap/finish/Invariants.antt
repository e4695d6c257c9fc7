use Rattle.std.proofs.Common.{◌≡◌, ◌++◌}
use Rattle.taps.specs.PerFlow.{rows_of_counts}
use Rattle.taps.proofs.per_flow.PerFlowTap.finish.Given as goal

-- the lines so far and those of the counts left are all lines
abbrev pub invariant-loop-flow : goal.invariant-loop-flow
invariant-loop-flow l = l.bytes.items ++ rows_of_counts l.flow-iterator ≡ rows_of_counts
    l.fn.self.counts.entries

use Rattle.std.proofs.Common.{take}
use Rattle.history.specs.Finding.{first_some}
use Rattle.history.specs.Index.{IsIndex}
use Rattle.history.specs.Lines.{drop_in}
use Rattle.history.proofs.known.index.index_drops.Given as goal

abbrev pub invariant-loop-lane : goal.invariant-loop-lane
invariant-loop-lane l = IsIndex l.count l.index (λ x. first_some (drop_in x)
    (take l.lane-index l.lanes))

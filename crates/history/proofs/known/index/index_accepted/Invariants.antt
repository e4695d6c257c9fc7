use Rattle.std.proofs.Common.{take}
use Rattle.history.specs.Index.{IsIndex}
use Rattle.history.specs.Lines.{accepted_place}
use Rattle.history.proofs.known.index.index_accepted.Given as goal

abbrev pub invariant-loop-lane : goal.invariant-loop-lane
invariant-loop-lane l = IsIndex l.count l.index (λ x. accepted_place (take l.lane-index l.lanes) x)

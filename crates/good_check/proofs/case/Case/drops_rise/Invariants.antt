use Rattle.std.proofs.Common.{take}
use Rattle.std.specs.List.{All}
use Rattle.steer_model.specs.Good.Drops.{DropsRise}
use Rattle.good_check.proofs.case.Case.drops_rise.Given as goal

abbrev pub invariant-loop-lane : goal.invariant-loop-lane
invariant-loop-lane l = All DropsRise (take l.lane-index l.self.h.now.lanes)

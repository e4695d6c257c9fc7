use Rattle.std.proofs.Common.{◌≡◌, []}
use Rattle.steer_base.specs.Sets.{has, those_below}
use Rattle.hop_model.specs.Emptied.{is_waiting}
use Rattle.hop_core.proofs.hop.Hop.emptied.Given as goal

abbrev pub invariant-loop-lane : goal.invariant-loop-lane
invariant-loop-lane l = those_below l.lane (is_waiting l.self (has l.lanes)) ≡ []

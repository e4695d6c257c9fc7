use Rattle.std.proofs.Common.{◌≡◌, map}
use Rattle.std.specs.List.{range_with_len}
use Rattle.steer_model.specs.State.Machine.{lane_list}
use Rattle.steer_core.proofs.actors.copies.lane_lists.Given as goal

abbrev pub invariant-loop-lane : goal.invariant-loop-lane
invariant-loop-lane l = l.lists.items ≡ map (lane_list l.hop.bare) (range_with_len 0 l.lane)

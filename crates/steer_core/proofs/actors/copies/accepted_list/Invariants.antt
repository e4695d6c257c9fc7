use Rattle.std.proofs.Common.{◌≡◌, take}
use Rattle.hop_model.specs.Hop.{accepted_at}
use Rattle.steer_core.proofs.actors.copies.accepted_list.Given as goal

abbrev pub invariant-loop-n : goal.invariant-loop-n
invariant-loop-n l = l.list.items ≡ take l.n (accepted_at l.hop.bare l.lane)

use Rattle.std.specs.List.{AllWithin}
use Rattle.history.specs.Ranges.{LaneFits}
use Rattle.history.proofs.history.fits.tell_lanes.Given as goal

-- those so far fit
abbrev pub invariant-loop-lane : goal.invariant-loop-lane
invariant-loop-lane l = AllWithin LaneFits l.lanes 0 l.lane-index

-- The counts that the drops of a lane keep, one after the other.
use Rattle.std.specs.Prelude.{◌≤◌, length}
use Rattle.std.specs.List.{All}
use Rattle.std.specs.List.Sorted.{IsNonDecreasingBy}
use Rattle.steer_base.specs.Lanes.{LaneLists}

-- Along the drops of a lane neither of their two counts falls, and none is over the lane's own.
pub record AreRising (l : LaneLists) : Type 0 where
  pub accepted : IsNonDecreasingBy (λ d. d.accepted) l.drops
  pub pulled : IsNonDecreasingBy (λ d. d.pulled) l.drops
  pub accepted_within : All (λ d. d.accepted ≤ length l.accepted) l.drops
  pub pulled_within : All (λ d. d.pulled ≤ l.pulled) l.drops

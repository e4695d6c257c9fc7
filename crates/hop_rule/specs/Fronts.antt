-- A list, and a lane, as they were before.
use Rattle.std.specs.Prelude.{◌≡◌, ◌≤◌, List, ◌++◌}
use Rattle.steer_base.specs.Lanes.{LaneLists}

-- The list ys begins with xs.
abbrev pub Front : {A : Type 0} → List A → List A → Type 0
Front {A} xs ys = (more : List A) × (ys ≡ xs ++ more)

-- The lane x is an earlier state of the lane y: its lists are fronts of those of y.
pub record IsEarlier (x y : LaneLists) : Type 0 where
  pub accepted : Front x.accepted y.accepted
  pub drops : Front x.drops y.drops
  pub offers : Front x.offers y.offers
  pub pulled : x.pulled ≤ y.pulled

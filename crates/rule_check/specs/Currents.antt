-- The current lane of each class.
use Rattle.std.specs.Prelude.{ℕ, ◌≡◌, List, Option, nat_eq}
use Rattle.indexmap.specs.IndexMap.{get}
use Rattle.steer_base.specs.Entries.{current_lane, of_class}
use Rattle.steer_base.specs.declared.choice.Chosen.{Chosen}
use Rattle.rule_check.specs.declared.currents.CurrentLanes.{CurrentLanes}

-- the lane that is kept for a class
abbrev pub lane_in : CurrentLanes → ℕ → Option ℕ
lane_in lanes class = get nat_eq lanes.lanes class

-- The lanes are those of the last choices of each class.
abbrev pub AreCurrent : CurrentLanes → List Chosen → Type 0
AreCurrent lanes cs = (class : ℕ) → lane_in lanes class ≡ current_lane (of_class class cs)

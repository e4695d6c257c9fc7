-- The heads that the first choices of a producer saw.
use Rattle.std.specs.Prelude.{ℕ, ◌≡◌, ◌≤◌, ◌<◌, ◌⊎◌, List, Some, slice_index}
use Rattle.steer_base.specs.Counters.{distance}
use Rattle.steer_base.specs.declared.choice.Chosen.{Chosen}
use Rattle.hop_model.specs.Hop.{chosen_at}
use Rattle.history.specs.Lists.{lane_at}
use Rattle.history.specs.declared.lane_list.LaneList.{LaneList}
use Rattle.steer_model.specs.Good.Choices.{lane_seen}

-- Choice k saw this head at this lane.
abbrev pub Saw : List Chosen → (index head lane : ℕ) → Type 0
Saw cs k head lane = ((chosen_at cs k).choice.head ≡ Some head) × (lane_seen cs k ≡ Some lane)

-- Along the first n choices the heads seen at one lane never fall, and none is over what the lane
-- retired; and `last` has for each lane the count of the last head that was seen there, or 0.
pub record HaveSeen (start : ℕ) (lanes : List LaneList) (cs : List Chosen) (n : ℕ)
    (last : List ℕ) : Type 0 where
  pub within : (k head lane : ℕ) → k < n → Saw cs k head lane
      → distance head start ≤ (lane_at lanes lane).retired
  pub rise : (j k before head lane : ℕ) → j < k → k < n → Saw cs j before lane
      → Saw cs k head lane → distance before start ≤ distance head start
  pub bound : (k head lane : ℕ) → k < n → Saw cs k head lane
      → distance head start ≤ slice_index last lane
  pub attained : (lane : ℕ) → (slice_index last lane ≡ 0)
      ⊎ ((k : ℕ) × (head : ℕ) × (k < n) × Saw cs k head lane
      × (distance head start ≡ slice_index last lane))

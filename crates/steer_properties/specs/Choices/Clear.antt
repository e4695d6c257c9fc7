-- A flow leaves a lane only where none of its packets is outstanding there (kernel scaling chapter,
-- sections RFS and XPS).
use Rattle.std.specs.Prelude.{ℕ, ◌<◌, ◌≤◌, ◌≡◌, true, List, Some, length}
use Rattle.history.specs.Lists.{lane_at, list_at}
use Rattle.history.specs.declared.history.History.{History}
use Rattle.history.specs.declared.lane_list.LaneList.{LaneList}
use Rattle.hop_model.specs.Hop.{chosen_at}
use Rattle.steer_base.specs.Choices.{has_moved}
use Rattle.steer_base.specs.Entries.{position}
use Rattle.steer_base.specs.declared.choice.Chosen.{Chosen}
use Rattle.steer_model.specs.Good.Choices.{accepted_in}

-- If a choice moved a class, each packet of an earlier choice for this class that was accepted is
-- retired; right after the choice this says that none was outstanding.
abbrev pub MovesAreClear : List LaneList → List Chosen → Type 0
MovesAreClear lanes cs =
    (j k class n : ℕ) → j < k → k < length cs
    → has_moved (chosen_at cs k).choice.why ≡ true
    → (chosen_at cs k).choice.class ≡ Some class → (chosen_at cs j).choice.class ≡ Some class
    → position (accepted_in lanes) (chosen_at cs j) ≡ Some n
    → n ≤ (lane_at lanes (chosen_at cs j).choice.lane).retired

-- Moves are clear for each receive queue and for each application.
pub record NothingIsOutstanding (h : History) : Type 0 where
  pub rx : (q : ℕ) → MovesAreClear h.lanes (list_at h.choices q)
  pub tx : (a : ℕ) → MovesAreClear h.tx_lanes (list_at h.tx_choices a)

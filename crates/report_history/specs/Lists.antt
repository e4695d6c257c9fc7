-- Which lists of a history the lines of a report show.
use Rattle.std.specs.Prelude.{ℕ, ◌≡◌, ◌≤◌, ◌<◌, List, [], length, map}
use Rattle.std.specs.List.{filter_map}
use Rattle.steer_base.specs.declared.choice.Chosen.{Chosen}
use Rattle.history.specs.Lists.{drop_ids, lane_at, list_at}
use Rattle.history.specs.declared.arrival.Arrival.{Arrival}
use Rattle.history.specs.declared.lane_list.LaneList.{LaneList}
use Rattle.report_reader.specs.Parts.{lane_sums}
use Rattle.report_reader.specs.Slots.{IsShelved}
use Rattle.report_reader.specs.declared.slots.Kind.TheVariants.{Accepted, Dropped, Inbox, Shipped}
use Rattle.report_reader.specs.declared.slots.Seen.{Seen}
use Rattle.report_reader.specs.declared.sums.LaneSums.{LaneSums}
use Rattle.report_history.specs.Shown.{queue_choice, shown_drop}

-- The choices of a receive queue are those for the packets that arrived there, in order. There are
-- no queues from 256 on.
pub record AreQueueChoices (seen : List Seen) (arrivals : List Arrival) (queue : ℕ)
    (list : List Chosen) : Type 0 where
  pub each : filter_map (queue_choice seen queue) arrivals ≡ list
  pub low : 256 ≤ queue → list ≡ []

-- the same of each of so many queues
pub record AreChoices (seen : List Seen) (arrivals : List Arrival) (queues : ℕ)
    (lists : List (List Chosen)) : Type 0 where
  pub long : length lists ≡ queues
  pub each : (q : ℕ) → q < length lists → AreQueueChoices seen arrivals q (list_at lists q)

-- The lines show the packets of the processor with this number where it has them, and the sums are
-- its own.
pub record IsBacklog (start : ℕ) (seen : List Seen) (number : ℕ) (sums : LaneSums) (lane : LaneList)
    : Type 0 where
  pub of_accepted : IsShelved start Accepted seen number lane.accepted
  pub of_dropped : IsShelved start Dropped seen number (drop_ids lane)
  pub of_drops : filter_map (shown_drop seen) (drop_ids lane) ≡ lane.drops
  pub of_sums : lane_sums lane ≡ sums

-- The same of a transmit queue, which drops nothing.
pub record IsTxQueue (start : ℕ) (seen : List Seen) (number : ℕ) (sums : LaneSums) (lane : LaneList)
    : Type 0 where
  pub of_accepted : IsShelved start Shipped seen number lane.accepted
  pub of_drops : lane.drops ≡ []
  pub of_sums : lane_sums lane ≡ sums

-- lanes with these sums, each of which is one of the given kind
pub record AreLanes (IsLane : ℕ → LaneSums → LaneList → Type 0) (sums : List LaneSums)
    (lanes : List LaneList) : Type 0 where
  pub of_sums : map lane_sums lanes ≡ sums
  pub each : (c : ℕ) → c < length lanes
      → IsLane c (lane_sums (lane_at lanes c)) (lane_at lanes c)

-- the lines show the packets of each inbox where it has them
pub record AreInboxes (start : ℕ) (seen : List Seen) (count : ℕ) (inboxes : List (List ℕ)) : Type 0
  where
    pub long : length inboxes ≡ count
    pub each : (a : ℕ) → a < length inboxes → IsShelved start Inbox seen a (list_at inboxes a)

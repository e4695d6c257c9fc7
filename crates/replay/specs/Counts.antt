-- The sums of a history.
use Rattle.std.specs.Prelude.{ℕ, ◌^◌, ◌<◌, List, count_by, length, map, sum}
use Rattle.steer_base.specs.Choices.{has_moved}
use Rattle.steer_base.specs.declared.choice.Chosen.{Chosen}
use Rattle.history.specs.declared.history.History.{History}
use Rattle.history.specs.declared.lane_list.LaneList.{LaneList}
use Rattle.replay.specs.declared.counts.Counts.{Counts}

-- The number of packets in inboxes.
abbrev pub delivered_in : List (List ℕ) → ℕ
delivered_in inboxes = sum (map (λ inbox. length inbox) inboxes)

-- The number of packets that processors dropped.
abbrev pub dropped_in : List LaneList → ℕ
dropped_in lanes = sum (map (λ lane. length lane.drops) lanes)

-- The number of choices of processors that are moves: unset, offline or passed.
abbrev pub moved_in : List (List Chosen) → ℕ
moved_in queues =
    sum (map (λ choices. count_by (λ chosen. has_moved chosen.choice.why) choices) queues)

-- The sums of a history; the replies are those that left by the port.
abbrev pub counts_of : History → Counts
counts_of h =
    record {
      delivered = delivered_in h.inboxes;
      dropped = dropped_in h.lanes;
      moved = moved_in h.choices;
      replies = length h.port;
    }

-- Each sum of a history is below 2^64.
pub record IsCountable (h : History) : Type 0 where
  pub delivered : delivered_in h.inboxes < 2 ^ 64
  pub dropped : dropped_in h.lanes < 2 ^ 64
  pub moved : moved_in h.choices < 2 ^ 64

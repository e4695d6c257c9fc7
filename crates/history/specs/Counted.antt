-- The number of arrivals at each queue, and of those before each packet.
use Rattle.std.specs.Prelude.{ℕ, ◌≡◌, List, length, map, slice_index, take}
use Rattle.std.specs.List.{range_with_len}
use Rattle.history.specs.Lists.{arrival_of, arrivals_at}
use Rattle.history.specs.declared.arrival.Arrival.{Arrival}
use Rattle.history.specs.declared.known.counted.Counted.{Counted}
use Rattle.history.specs.declared.history.History.{History}

-- the number of packets that arrived at each of the first receive queues
abbrev pub arrival_counts : List Arrival → ℕ → List ℕ
arrival_counts arrivals queues =
    map (λ q. length (arrivals_at arrivals q)) (range_with_len 0 queues)

-- the number of packets that arrived at the queue of a packet before it, and 0 if there is no such
-- queue
abbrev pub rank_of : History → ℕ → ℕ
rank_of h x =
    slice_index (arrival_counts (take x h.arrivals) (length h.taken))
    (arrival_of h.arrivals x).queue

-- counts that are those of all arrivals of a history, with the rank of each of its packets
pub record IsCounted (h : History) (c : Counted) : Type 0 where
  pub arrived : c.arrived.items ≡ arrival_counts h.arrivals (length h.taken)
  pub ranks : c.ranks.items ≡ map (rank_of h) (range_with_len 0 (length h.arrivals))

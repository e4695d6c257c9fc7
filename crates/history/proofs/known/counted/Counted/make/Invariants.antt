use Rattle.std.proofs.Common.{◌≡◌, length, map, take}
use Rattle.std.specs.List.{range_with_len}
use Rattle.history.specs.Counted.{arrival_counts, rank_of}
use Rattle.history.proofs.known.counted.Counted.make.Given as goal

abbrev pub invariant-loop-arrival : goal.invariant-loop-arrival
invariant-loop-arrival l = record {
  arrived : l.arrived.items ≡ arrival_counts (take l.arrival-index l.h.arrivals) (length l.h.taken);
  ranks : l.ranks.items ≡ map (rank_of l.h) (range_with_len 0 l.arrival-index);
}

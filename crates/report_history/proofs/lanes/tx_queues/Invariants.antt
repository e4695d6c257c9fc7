use Rattle.std.proofs.Common.{ℕ, ◌≡◌, ◌≤◌, ◌<◌, List, length, take}
use Rattle.history.specs.Lists.{list_at}
use Rattle.history.specs.declared.lane_list.LaneList.{LaneList}
use Rattle.report_reader.specs.Slots.{IsShelved}
use Rattle.report_reader.specs.declared.slots.Kind.TheVariants.{Shipped}
use Rattle.report_history.specs.Lists.{AreLanes, IsTxQueue}
use Rattle.report_history.proofs.lanes.tx_queues.Given as goal

abbrev pub invariant-loop-t : goal.invariant-loop-t
invariant-loop-t l = record {
  long : length l.accepted.items ≡ length l.sums;
  rest : (n : ℕ) (wanted : List ℕ) → l.t ≤ n → n < length l.sums
      → IsShelved l.start Shipped l.seen n wanted → list_at l.accepted.items n ≡ wanted;
  built : (all : List LaneList) → AreLanes (IsTxQueue l.start l.seen) l.sums all
      → l.lanes.items ≡ take l.t all;
}

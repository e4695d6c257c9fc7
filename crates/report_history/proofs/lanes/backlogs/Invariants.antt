use Rattle.std.proofs.Common.{ℕ, ◌≡◌, ◌≤◌, ◌<◌, List, length, take}
use Rattle.history.specs.Lists.{list_at}
use Rattle.history.specs.declared.lane_list.LaneList.{LaneList}
use Rattle.report_reader.specs.Slots.{IsShelved}
use Rattle.report_reader.specs.declared.slots.Kind.TheVariants.{Accepted}
use Rattle.report_history.specs.Lists.{AreLanes, IsBacklog}
use Rattle.report_history.proofs.lanes.backlogs.Given as goal

abbrev pub invariant-loop-c : goal.invariant-loop-c
invariant-loop-c l = record {
  long : length l.accepted.items ≡ length l.sums;
  rest : (n : ℕ) (wanted : List ℕ) → l.c ≤ n → n < length l.sums
      → IsShelved l.start Accepted l.seen n wanted → list_at l.accepted.items n ≡ wanted;
  built : (all : List LaneList) → AreLanes (IsBacklog l.start l.seen) l.sums all
      → l.lanes.items ≡ take l.c all;
}

use Rattle.std.proofs.Common.{ℕ, ◌≡◌, ◌<◌, ◌++◌, drop, length}
use Rattle.std.specs.List.{filter_map}
use Rattle.history.specs.Lists.{list_at}
use Rattle.report_history.specs.Shown.{queue_choice}
use Rattle.report_history.proofs.choices.choices.Given as goal

abbrev pub invariant-loop-arrival : goal.invariant-loop-arrival
invariant-loop-arrival l = record {
  long : length l.lists.items ≡ l.queues;
  each : (q : ℕ) → q < l.queues
      → list_at l.lists.items q
      ++ filter_map (queue_choice l.seen q) (drop l.arrival-index l.arrivals)
      ≡ filter_map (queue_choice l.seen q) l.arrivals;
}

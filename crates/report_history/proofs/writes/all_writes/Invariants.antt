use Rattle.std.proofs.Common.{ℕ, ◌≡◌, ◌<◌, ◌++◌, drop, length}
use Rattle.std.specs.List.{filter_map}
use Rattle.history.specs.Lists.{list_at}
use Rattle.report_history.specs.Shown.{own_write}
use Rattle.report_history.proofs.writes.all_writes.Given as goal

abbrev pub invariant-loop-write : goal.invariant-loop-write
invariant-loop-write l = record {
  long : length l.lists.items ≡ l.apps;
  each : (a : ℕ) → a < l.apps
      → list_at l.lists.items a ++ filter_map (own_write a) (drop l.write-index l.writes)
      ≡ filter_map (own_write a) l.writes;
}

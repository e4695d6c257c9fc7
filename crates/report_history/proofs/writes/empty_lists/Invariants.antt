use Rattle.std.proofs.Common.{ℕ, ◌≡◌, [], length}
use Rattle.history.specs.Lists.{list_at}
use Rattle.report_history.proofs.writes.empty_lists.Given as goal

abbrev pub invariant-loop-app : goal.invariant-loop-app
invariant-loop-app l = record {
  long : length l.lists.items ≡ l._app;
  empty : (a : ℕ) → list_at l.lists.items a ≡ [];
}

use Rattle.std.proofs.Common.{ℕ, ◌≡◌, [], length}
use Rattle.history.specs.Lists.{list_at}
use Rattle.report_history.proofs.choices.empty_lists.Given as goal

abbrev pub invariant-loop-queue : goal.invariant-loop-queue
invariant-loop-queue l = record {
  long : length l.lists.items ≡ l.queue;
  empty : (q : ℕ) → list_at l.lists.items q ≡ [];
}

use Rattle.std.proofs.Common.{◌≡◌, ◌≤◌, length}
use Rattle.std.specs.List.{All}
use Rattle.steer_base.specs.declared.limits.TheConstants.{MAX_FLOW_COUNT}
use Rattle.steer_core.specs.OldFilters.{AreCountsBelow}
use Rattle.steer_core.proofs.actors.old_filters.counts_of.Given as goal

abbrev pub invariant-loop-queue : goal.invariant-loop-queue
invariant-loop-queue l = record {
  long : length l.counts ≡ 16;
  same : AreCountsBelow l.settings l.queue l.counts;
  within : All (λ count. count ≤ MAX_FLOW_COUNT) l.counts;
}

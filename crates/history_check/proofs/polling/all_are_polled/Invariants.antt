use Rattle.std.proofs.Common.{ℕ, ◌<◌, ◌≡◌, true}
use Rattle.history_check.specs.Tests.{is_polled}
use Rattle.history_check.proofs.polling.all_are_polled.Given as goal

abbrev pub invariant-loop-queue : goal.invariant-loop-queue
invariant-loop-queue l = (q : ℕ) → q < l.queue → is_polled l.h q ≡ true

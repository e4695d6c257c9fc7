use Rattle.std.proofs.Common.{◌≡◌, map, take}
use Rattle.steer_base.specs.Counters.{rounded_up}
use Rattle.steer_model.proofs.settings.counts_of.Given as goal

abbrev pub invariant-loop-queue : goal.invariant-loop-queue
invariant-loop-queue l =
    l.counts.items ≡ map (λ queue. rounded_up queue.flows) (take l.queue-index l.queues)

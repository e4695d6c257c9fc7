use Rattle.std.proofs.Common.{◌≡◌, map, take}
use Rattle.steer_base.specs.Counters.{rounded_up}
use Rattle.run_words.specs.Values.{flows_word}
use Rattle.run_words.proofs.first.flow_words.Given as goal

abbrev pub invariant-loop-queue : goal.invariant-loop-queue
invariant-loop-queue l =
    l.words.items
    ≡ map (λ queue. flows_word (rounded_up queue.flows) 0) (take l.queue-index l.queues)

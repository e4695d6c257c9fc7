use Rattle.std.proofs.Common.{◌≡◌, map, take}
use Rattle.good_check.proofs.case.Case.arrival_queues.Given as goal

abbrev pub invariant-loop-arrival : goal.invariant-loop-arrival
invariant-loop-arrival l = l.queues.items
    ≡ map (λ arrival. arrival.queue) (take l.arrival-index l.self.h.now.arrivals)

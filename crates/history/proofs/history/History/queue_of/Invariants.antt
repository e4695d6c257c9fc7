use Rattle.std.proofs.Common.{◌≡◌, drop}
use Rattle.history.specs.Finding.{found}
use Rattle.history.proofs.history.History.queue_of.Given as goal

abbrev pub invariant-loop-arrival : goal.invariant-loop-arrival
invariant-loop-arrival l = found (λ a. a.id) l.id (drop l.arrival-index l.self.arrivals) ≡ found
    (λ a. a.id) l.id l.self.arrivals

use Rattle.std.proofs.Common.{◌≡◌, drop}
use Rattle.history.specs.Finding.{is_among}
use Rattle.history.specs.Lists.{arrivals_at}
use Rattle.history.proofs.history.History.has_among_arrivals.Given as goal

abbrev pub invariant-loop-arrival : goal.invariant-loop-arrival
invariant-loop-arrival l =
    is_among l.left l.id (arrivals_at (drop l.arrival-index l.self.arrivals) l.queue) ≡ is_among
    l.count l.id (arrivals_at l.self.arrivals l.queue)

use Rattle.std.proofs.Common.{◌≡◌, drop, map}
use Rattle.history.specs.Finding.{is_in}
use Rattle.history.specs.Places.{has_arrived}
use Rattle.history.proofs.history.History.has_arrived.Given as goal

abbrev pub invariant-loop-arrival : goal.invariant-loop-arrival
invariant-loop-arrival l =
    is_in l.id (map (λ a. a.id) (drop l.arrival-index l.self.arrivals)) ≡ has_arrived l.self l.id

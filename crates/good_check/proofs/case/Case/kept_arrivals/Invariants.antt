use Rattle.std.proofs.Common.{◌≡◌, take}
use Rattle.good_check.specs.Order.{kept_arrivals}
use Rattle.good_check.proofs.case.Case.kept_arrivals.Given as goal

abbrev pub invariant-loop-arrival : goal.invariant-loop-arrival
invariant-loop-arrival l = l.packets.items
    ≡ kept_arrivals l.self.known.now (take l.arrival-index l.self.h.now.arrivals)

use Rattle.std.proofs.Common.{◌≡◌, take}
use Rattle.good_check.specs.Order.{arrival_classes}
use Rattle.good_check.proofs.case.Case.arrival_classes.Given as goal

abbrev pub invariant-loop-arrival : goal.invariant-loop-arrival
invariant-loop-arrival l = l.classes.items
    ≡ arrival_classes l.flows l.self.given.now (take l.arrival-index l.self.h.now.arrivals)

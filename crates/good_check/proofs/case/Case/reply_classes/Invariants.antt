use Rattle.std.proofs.Common.{◌≡◌, take}
use Rattle.good_check.specs.Order.{reply_classes}
use Rattle.good_check.proofs.case.Case.reply_classes.Given as goal

abbrev pub invariant-loop-arrival : goal.invariant-loop-arrival
invariant-loop-arrival l = l.classes.items
    ≡ reply_classes l.self.given.now (take l.arrival-index l.self.h.now.arrivals)

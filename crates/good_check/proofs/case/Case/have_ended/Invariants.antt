use Rattle.std.proofs.Common.{◌≡◌, take, true}
use Rattle.std.specs.List.{list_all}
use Rattle.good_check.specs.Swept.{has_ended}
use Rattle.good_check.proofs.case.Case.have_ended.Given as goal

abbrev pub invariant-loop-arrival : goal.invariant-loop-arrival
invariant-loop-arrival l =
    list_all (λ a. has_ended l.self.h.now a.id) (take l.arrival-index l.self.h.now.arrivals) ≡ true

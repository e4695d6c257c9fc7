use Rattle.good_check.specs.Cases.{input_of}
use Rattle.good_check.specs.Faults.{HoldBefore}
use Rattle.good_check.proofs.case.Case.first_fault.Given as goal

abbrev pub invariant-loop-clause : goal.invariant-loop-clause
invariant-loop-clause l = HoldBefore l.clause (input_of l.self) l.self.h.now

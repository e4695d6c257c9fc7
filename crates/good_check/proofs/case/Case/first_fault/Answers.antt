use Rattle.std.proofs.Common.{arith}
use Rattle.good_check.specs.Cases.{input_of}
use Rattle.good_check.proofs.FaultLemmas.{all-hold, hold-next}
use Rattle.good_check.proofs.case.Case.first_fault.Goals as goal

pub loop-clause-preserved : goal.loop-clause-preserved
loop-clause-preserved c =
    hold-next c.loop-clause.clause (input_of c.args.self.now) c.args.self.now.h.now
    c.loop-clause.invariant (c.in_ok-holds.ensures.yes c.if-not-branch.false)

pub returns-clause-none : goal.returns-clause-none
returns-clause-none c = λ e.
    all-hold c.loop-clause.clause (input_of c.args.self.now) c.args.self.now.h.now
    (omega (arith, c.loop-clause-test.false)) c.loop-clause.invariant

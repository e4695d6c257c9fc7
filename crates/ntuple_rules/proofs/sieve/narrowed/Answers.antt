use Rattle.ntuple_rules.proofs.Sieved.{left_in}
use Rattle.ntuple_rules.proofs.sieve.narrowed.Goals as goal

pub loop-digit-preserved : goal.loop-digit-preserved
loop-digit-preserved c place below candidate allows =
    left_in c.loop-digit.left c.set_at-left.result place
    (c.loop-digit.invariant place below candidate allows)
    (rw c.digit_of.ensures.value at c.set_at-left.ensures place below
    (allows c.loop-digit.digit c.loop-digit-test.true))

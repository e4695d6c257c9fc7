use Rattle.std.proofs.Common.{arith}
use Rattle.accel_filter.proofs.BitLemmas.{lowest, none-left}
use Rattle.accel_filter.proofs.marks.next_bit.Goals as goal

pub returns-then-left-eq0-clause-none : goal.returns-then-left-eq0-clause-none
returns-then-left-eq0-clause-none c = none-left c.args.word c.args.from c.if-left-eq0.true

pub returns-clause-some : goal.returns-clause-some
returns-clause-some c =
    lowest c.args.word c.args.from c.ranges.word.fits (omega (arith, c.if-left-eq0.false))

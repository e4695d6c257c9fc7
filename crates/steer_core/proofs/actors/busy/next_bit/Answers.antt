use Rattle.std.proofs.Common.{refl, arith}
use Rattle.steer_core.proofs.NextLemmas.{first, none-below, none-left}
use Rattle.steer_core.proofs.actors.busy.next_bit.Goals as goal

pub returns-then-left-eq0-clause-none : goal.returns-then-left-eq0-clause-none
returns-then-left-eq0-clause-none c =
    none-left c.args.bits c.args.from c.args.end c.ranges.bits.fits c.if-left-eq0.true

pub returns-then-next-end-clause-some : goal.returns-then-next-end-clause-some
returns-then-next-end-clause-some c = (
  c.if-next-end.true,
  first c.args.bits c.args.from c.args.end c.ranges.bits.fits _
      (omega (arith, c.if-left-eq0.false)) refl c.if-next-end.true,
)

pub returns-else-next-end-clause-none : goal.returns-else-next-end-clause-none
returns-else-next-end-clause-none c =
    none-below c.args.bits c.args.from c.args.end c.ranges.bits.fits _
    (omega (arith, c.if-left-eq0.false)) refl c.if-next-end.false

use Rattle.std.proofs.Common.{arith}
use Rattle.steer_base.proofs.PowerLemmas.{masked}
use Rattle.steer_base.proofs.division.remainder.Goals as goal

pub returns-then-divisor-below-eq0 : goal.returns-then-divisor-below-eq0
returns-then-divisor-below-eq0 c =
    masked c.args.value c.args.divisor (omega (arith, c.requires)) c.if-divisor-below-eq0.true

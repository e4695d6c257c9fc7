use Rattle.std.proofs.Common.{arith}
use Rattle.std.proofs.lemmas.Fmt.{decimal_digit}
use Rattle.itoa.proofs.Decimal.{decimal_two}
use Rattle.report.proofs.line.LineBuf.push_decimal.Goals as goal

pub returns-then-number-lt10-clause-value : goal.returns-then-number-lt10-clause-value
returns-then-number-lt10-clause-value c =
    rw (decimal_digit c.args.number c.if-number-lt10.true) c.push.ensures

pub returns-then-number-lt100-clause-value : goal.returns-then-number-lt100-clause-value
returns-then-number-lt100-clause-value c =
    rw (
    decimal_two c.args.number (omega (arith, c.if-number-lt10.false)) c.if-number-lt100.true
    ) c.push-then-number-lt100.ensures

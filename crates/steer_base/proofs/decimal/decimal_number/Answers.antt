use Rattle.std.proofs.Common.{◌≤◌, ◌^◌, arith, lit<}
use Rattle.std.proofs.Math.Nat.{pow-le-pow_right}
use Rattle.steer_base.proofs.decimal.decimal_number.Goals as goal

pub returns-clause-within : goal.returns-clause-within
returns-clause-within c =
    let few : c.loop-digit.digit-index ≤ c.args.most = omega arith in
    let power : 10 ^ c.loop-digit.digit-index ≤ 10 ^ c.args.most =
    pow-le-pow_right {n = 10} (lit< tt) few in
    omega (arith, c.loop-digit.invariant.small)

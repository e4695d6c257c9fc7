use Rattle.std.proofs.Common.{◌≡◌, ◌<◌, ◌^◌, drop}
use Rattle.steer_base.specs.Decimals.{digits_from}
use Rattle.steer_base.proofs.decimal.decimal_number.Given as goal

abbrev pub invariant-loop-digit : goal.invariant-loop-digit
invariant-loop-digit l = record {
  same : digits_from l.number (drop l.digit-index l.text) ≡ digits_from 0 l.text;
  small : l.number < 10 ^ l.digit-index;
}

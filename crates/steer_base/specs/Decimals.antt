-- Numbers in decimal digits, as they stand in texts.
use Rattle.std.specs.Prelude.{ℕ, ◌+◌, ◌-◌, ◌*◌, ◌&&◌, List, [], ◌∷◌, Option, Some, None, nat_lt}
use Rattle.std.specs.Prelude.{nat_le, length, if◌then◌else◌}

-- the number that the digits go on with, and none where one is no digit
abbrev pub digits_from : ℕ → List ℕ → Option ℕ
digits_from number [] = Some number
digits_from number (digit ∷ digits) =
    if nat_le 48 digit && nat_le digit 57 then digits_from (number * 10 + (digit - 48)) digits
    else None

-- the number of one to `most` decimal digits without a sign, where a text is that
unfoldable pub decimal_number : ℕ → List ℕ → Option ℕ
decimal_number most text =
    if nat_lt 0 (length text) && nat_le (length text) most then digits_from 0 text else None

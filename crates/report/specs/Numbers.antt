-- Numbers as text.
use Rattle.std.specs.Prelude.{ℕ, zero, suc, ◌+◌, ◌*◌, ◌/◌, ◌%◌, ◌^◌, List, [], ◌∷◌, nat_lt}
use Rattle.std.specs.Prelude.{if◌then◌else◌}

-- a lower case hexadecimal digit
abbrev pub hex_digit : ℕ → ℕ
hex_digit d = if nat_lt d 10 then 48 + d else 87 + d

-- the lowest so many hexadecimal digits of a number, the highest of them first
unfoldable pub hex_digits : ℕ → ℕ → List ℕ
hex_digits zero n = []
hex_digits (suc k) n = hex_digit (n / 2 ^ (4 * k) % 16) ∷ hex_digits k n

-- the 8 digits of a number of 32 bits
abbrev pub hex8_of : ℕ → List ℕ
hex8_of n = hex_digits 8 n

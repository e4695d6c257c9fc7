-- The parts of a step text: numbers, sets, and the words between spaces.
use Rattle.std.specs.Prelude.{ℕ, ◌^◌, ◌==◌, List, [], ◌∷◌, length, Option}
use Rattle.std.specs.Prelude.{Some, None, Result, Ok, nat_lt, if◌then◌else◌, option_map}
use Rattle.std.specs.Prelude.{option_and_then, bytes_eq, codes, bit_or}
use Rattle.std.specs.List.{slice_split, position_or_len, before_first, after_first}
use Rattle.steer_base.specs.Decimals.{decimal_number}
use Rattle.plan_reader.specs.declared.faults.cause.Cause.{Cause}
use Rattle.plan_reader.specs.Causes.{◌>>=◌, below}

-- one to ten decimal digits without a sign
abbrev pub plain_number : List ℕ → Option ℕ
plain_number token = decimal_number 10 token

-- every one of these tokens as a number
abbrev pub numbers_of : List (List ℕ) → Option (List ℕ)
numbers_of [] = Some []
numbers_of (token ∷ tokens) =
    option_and_then (λ n. option_map (λ ns. n ∷ ns) (numbers_of tokens)) (plain_number token)

-- the parts between commas
abbrev pub parts : List ℕ → List (List ℕ)
parts token = slice_split (λ byte. byte == 44) token

-- numbers with commas between them, or a dash for none
unfoldable pub set_of : List ℕ → Option (List ℕ)
set_of token = if bytes_eq token (codes "-") then Some [] else numbers_of (parts token)

-- The set with these numbers added: bit n is number n. The first number that is not below the limit
-- is refused.
abbrev pub merged_from : ℕ → ℕ → List ℕ → Result ℕ Cause
merged_from limit bits [] = Ok bits
merged_from limit bits (n ∷ ns) = do
  n ← below limit n
  merged_from limit (bit_or bits (2 ^ n)) ns

-- the set of these numbers, all below the limit
abbrev pub merged : ℕ → List ℕ → Result ℕ Cause
merged limit ns = merged_from limit 0 ns

-- what stands before the first such byte, or all where there is none
abbrev pub before : ℕ → List ℕ → List ℕ
before byte text = before_first (λ b. b == byte) text

-- what follows the first such byte, where there is one
abbrev pub after_byte : ℕ → List ℕ → Option (List ℕ)
after_byte byte text =
    if nat_lt (position_or_len (λ b. b == byte) text) (length text)
    then Some (after_first (λ b. b == byte) text) else None

-- One value after another, up to the first that is wrong.
use Rattle.std.specs.Prelude.{ℕ, ◌&&◌, Option, Result, Ok, Err, nat_le, nat_lt, if◌then◌else◌}
use Rattle.std.specs.Option.{ok_or}
use Rattle.plan_reader.specs.declared.faults.cause.Cause.{Cause}
use Rattle.plan_reader.specs.declared.faults.cause.Cause.TheVariants.{WrongKind, Range}

-- what follows a reading; where it is wrong nothing does
infixl 10 ◌>>=◌
abbrev pub ◌>>=◌ : {A B E : Type 0} → Result A E → (A → Result B E) → Result B E
(Ok x) >>= f = f x
(Err e) >>= f = Err e

-- a value of the stated kind
abbrev pub kind : {A : Type 0} → Option A → Result A Cause
kind found = ok_or found WrongKind

-- a number from low to high
abbrev pub in_range : (low high number : ℕ) → Result ℕ Cause
in_range low high n = if nat_le low n && nat_le n high then Ok n else Err (Range n)

-- a number below a limit
abbrev pub below : ℕ → ℕ → Result ℕ Cause
below limit n = if nat_lt n limit then Ok n else Err (Range n)

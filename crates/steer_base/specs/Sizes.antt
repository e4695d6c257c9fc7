-- Sizes of tables, rounded up to powers of two.
use Rattle.std.specs.Prelude.{ℕ, ◌<◌, ◌≤◌, ◌^◌}
use Rattle.steer_base.specs.declared.limits.TheConstants.{MAX_SOCKET_SIZE}
use Rattle.steer_base.specs.Counters.{rounded_up}

abbrev pub SizesAreNumbers : Type 0
SizesAreNumbers = (n : ℕ) → n ≤ MAX_SOCKET_SIZE → rounded_up n < 2 ^ 32

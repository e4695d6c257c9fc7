-- The next number that passes a test.
use Rattle.std.specs.Prelude.{ℕ, ◌≤◌, ◌≡◌, Bool, true}
use Rattle.std.specs.Slice.Scan.{HoldsNowhere}

-- n passes the test, and is the first number from one on that does
pub record IsNext (test : ℕ → Bool) (from n : ℕ) : Type 0 where
  pub behind : from ≤ n
  pub passes : test n ≡ true
  pub before : HoldsNowhere test from n

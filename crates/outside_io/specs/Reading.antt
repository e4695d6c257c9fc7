-- How many bytes of a file are taken when it is read whole.
use Rattle.std.specs.Prelude.{◌≡◌, ◌≤◌, ◌+◌, ℕ, IfOk, IsErrOf, Vec, vec_len}
use Rattle.std.specs.declared.alloc.Global.{Global}
use Rattle.std.specs.declared.result.Result.{Result}
use Rattle.outside_io.specs.Counts.{raised}
use Rattle.outside_io.specs.declared.reading.ReadWhole.{ReadWhole}
use Rattle.outside_io.specs.declared.reading.ReadWhole.TheVariants.{Fault, TooLong}

-- The count of bytes taken from a desk, before and after a file of at most `limit` bytes is read
-- whole: it rises by the bytes of the file, or by one more than the limit if the file is too long.
pub record TakesUpTo (result : Result (Vec ℕ Global) ReadWhole) (limit before now : ℕ)
    : Type 0 where
  pub ok : IfOk result (λ bytes. now ≡ raised (vec_len bytes) before)
  pub too_long : IsErrOf result TooLong → now ≡ raised (limit + 1) before
  pub fault : IsErrOf result Fault → now ≤ before + limit
  pub at_most : now ≤ before + (limit + 1)

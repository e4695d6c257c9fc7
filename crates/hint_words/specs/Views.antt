-- What contracts see of the hints: which table it is, and how many words and seats it has.
use Rattle.std.specs.Prelude.{ℕ}
use Rattle.atomic_table.specs.Seated.{TableId}

-- What contracts see of the hints: their table, and the number of words and seats.
pub record HintsView : Type 0 where
  pub table : TableId
  pub words : ℕ
  pub seats : ℕ

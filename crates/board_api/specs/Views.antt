-- A board as contracts see it.
use Rattle.atomic_table.specs.Seated.{TableId}
use Rattle.hop_rule.specs.declared.sizes.BoardSizes.{BoardSizes}

-- A board as contracts see it: the table of its words, and its sizes.
pub record BoardView : Type 0 where
  pub table : TableId
  pub sizes : BoardSizes

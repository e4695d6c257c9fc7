-- Tables whose row for a hash is at `hash mod size`: the flow tables of the kernel's scaling
-- chapter, and this project's filters of a card. What is in a row that was not written since
-- the table was cleared is its unset row.
use Rattle.std.specs.Prelude.{ℕ, List, Option, Some, None, length, replicate, slice_index_or}
use Rattle.std.specs.Prelude.{slice_set}
use Rattle.steer_base.specs.Choices.{class_of}

module _ {Row : Type 0} where
  -- a table of so many rows, none of them written
  abbrev pub cleared_rows : ℕ → Row → List Row
  cleared_rows size unset = replicate size unset

  -- the place of a hash: its class among the rows; none without a hash, and none in a table without
  -- rows
  abbrev pub place_in_rows : List Row → Option ℕ → Option ℕ
  place_in_rows rows hash = class_of (length rows) hash

  -- what is at a place, and an unset row at none
  abbrev pub row_at : Row → List Row → Option ℕ → Row
  row_at unset rows None = unset
  row_at unset rows (Some place) = slice_index_or rows place unset

  -- the table with a row written at a place, and as it was at none
  abbrev pub with_row : List Row → Option ℕ → Row → List Row
  with_row rows None row = rows
  with_row rows (Some place) row = slice_set rows place row

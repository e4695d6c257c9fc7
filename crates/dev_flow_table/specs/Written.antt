-- Entries that were written, and those behind them, which are unset.
use Rattle.std.specs.Prelude.{ℕ, ◌++◌, ◌-◌, List, length, replicate}
use Rattle.steer_base.specs.declared.choice.Entry.{Entry}
use Rattle.dev_flow_table.specs.Tables.{unset}

-- as many entries as the size: those that were written, and unset ones behind them
abbrev pub filled : List Entry → ℕ → ℕ → List Entry
filled rows size start = rows ++ replicate (size - length rows) (unset start)

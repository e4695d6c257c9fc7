-- A flow table as rows: what is recorded of each class (kernel scaling chapter, section RFS: the
-- current processor and the last queue tail of a flow).
use Rattle.std.specs.Prelude.{ℕ, ◌<◌, Bool, List, Option, Some, None, if◌then◌else◌}
use Rattle.std.specs.Prelude.{length, replicate, slice_index_or, slice_set}
use Rattle.steer_base.specs.Choices.{has_moved}
use Rattle.steer_base.specs.Counters.{number}
use Rattle.steer_base.specs.declared.choice.Choice.{Choice}
use Rattle.steer_base.specs.declared.choice.Entry.{Entry}

-- a flow table: a row for each class, the number at which the lanes' counters begin, and whether
-- the number of rows is fixed
pub record Table : Type 0 where
  pub rows : List Entry
  pub start : ℕ
  pub exact : Bool

-- the entry of a class without a lane: its recorded tail is the number at which counters begin
abbrev pub unset : ℕ → Entry
unset start = record { lane = None; tail = number start 0 }

-- a flow table of this many classes, each unset
abbrev pub cleared : ℕ → ℕ → Bool → Table
cleared count start exact =
    record { rows = replicate count (unset start); start = start; exact = exact }

-- the entry of a class in a flow table
abbrev pub entries : Table → ℕ → Entry
entries table class = slice_index_or table.rows class (unset table.start)

-- The class, if there is one, is below the number of rows.
abbrev pub IsClassOf : Table → Option ℕ → Type 0
IsClassOf table None = Unit {0}
IsClassOf table (Some class) = class < length table.rows

-- the flow table with this entry for a class
abbrev pub with_entry : Table → ℕ → Entry → Table
with_entry table class entry = record table { rows = slice_set table.rows class entry }

-- the entry of a class after a choice: the chosen lane, and the recorded tail as it was or, after a
-- move, the number at which counters begin
abbrev pub entry_after : ℕ → Entry → Choice → Entry
entry_after start entry choice = record {
  lane = Some choice.lane;
  tail = if has_moved choice.why then number start 0 else entry.tail;
}

-- the flow table after a choice
abbrev pub weighed : Table → Option ℕ → Choice → Table
weighed table None choice = table
weighed table (Some class) choice = record table {
  rows = slice_set table.rows class (entry_after table.start (entries table class) choice);
}

-- the flow table after a lane accepted a packet of the class at this position
abbrev pub recorded : Table → ℕ → ℕ → Table
recorded table class position = record table {
  rows = slice_set table.rows class (record (entries table class) { tail = position });
}

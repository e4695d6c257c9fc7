-- The flow tables of a hop's producers, by the entries of each.
use Rattle.std.specs.Prelude.{ℕ, ◌<◌, ◌≡◌, Bool, List, [], Option, Some, None, length, map}
use Rattle.std.specs.Prelude.{replicate, slice_index_or, slice_set, if◌then◌else◌}
use Rattle.std.specs.Option.{IsSome}
use Rattle.steer_base.specs.Choices.{looks_from}
use Rattle.steer_base.specs.declared.choice.Entry.{Entry}
use Rattle.steer_base.specs.declared.put.Put.{Put}
use Rattle.steer_base.specs.declared.put.Put.TheVariants.{At, Dropped}
use Rattle.dev_flow_table.specs.Tables.{Table, entries, recorded, unset}
use Rattle.hop_model.specs.Shape.{classes_for}

-- The flow tables of a hop's producers, with one first counter number, either all of a fixed size
-- or all rounded up.
pub record FlowTables : Type 0 where
  pub rows : List (List Entry)
  pub start : ℕ
  pub exact : Bool

-- the flow table of a producer
abbrev pub table_at : FlowTables → ℕ → Table
table_at t p = record { rows = slice_index_or t.rows p []; start = t.start; exact = t.exact }

-- the flow tables with other rows for one producer
abbrev pub with_rows : FlowTables → ℕ → List Entry → FlowTables
with_rows t p rows = record t { rows = slice_set t.rows p rows }

-- flow tables of unset entries, one for each of these numbers of classes
abbrev pub new_tables : List ℕ → ℕ → Bool → FlowTables
new_tables counts start exact =
    record {
      rows = map (λ count. replicate (classes_for exact count) (unset start)) counts;
      start = start;
      exact = exact;
    }

-- the flow table after a put: if the packet was accepted, its class has the position as its
-- recorded tail
abbrev pub noted : Table → Option ℕ → Put → Table
noted table (Some class) (At position) = recorded table class position
noted table None (At position) = table
noted table class (Dropped number accepted pulled cause) = table

-- The class, if there is one, has a current lane.
abbrev pub IsSet : Table → Option ℕ → Type 0
IsSet table None = Unit {0}
IsSet table (Some class) = IsSome (entries table class).lane

-- Each current lane of a flow table is below this number.
abbrev pub LanesBelow : Table → ℕ → Type 0
LanesBelow table count =
    (class lane : ℕ) → class < length table.rows → (entries table class).lane ≡ Some lane
    → lane < count

-- the head of a class's current lane, if the migration rule looks at it
abbrev pub head_from : Option ℕ → ℕ → (ℕ → Bool) → (ℕ → ℕ) → Option ℕ
head_from None desired online head = None
head_from (Some current) desired online head =
    if looks_from (Some current) desired online then Some (head current) else None

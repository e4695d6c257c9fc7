-- Flow tables with one shared table before them, of whose entries each belongs to at most one
-- producer.
use Rattle.std.specs.Prelude.{ℕ, suc, Bool, true, false, List, [], ◌∷◌, Option, Some, None}
use Rattle.std.specs.Prelude.{◌==◌, ◌&&◌, nat_lt, length, slice_index_or, if◌then◌else◌}
use Rattle.steer_base.specs.declared.choice.Entry.{Entry}
use Rattle.dev_flow_table.specs.Tables.{Table}
use Rattle.hop_core.specs.declared.shared.Owned.{Owned}

-- an entry that belongs to nobody
abbrev pub free : Owned
free = record { owner = None; lane = None; tail = 0 }

-- the entry of a producer
abbrev pub owned : ℕ → Entry → Owned
owned p entry = record { owner = Some p; lane = entry.lane; tail = entry.tail }

-- the entry without its owner
abbrev pub entry_of : Owned → Entry
entry_of shared = record { lane = shared.lane; tail = shared.tail }

abbrev pub is_owner : ℕ → Option ℕ → Bool
is_owner p None = false
is_owner p (Some owner) = owner == p

abbrev pub may_own : ℕ → Option ℕ → Bool
may_own p None = true
may_own p (Some owner) = owner == p

-- whether an entry belongs to this producer
abbrev pub is_of : ℕ → Owned → Bool
is_of p shared = is_owner p shared.owner

-- whether an entry belongs to this producer or to nobody
abbrev pub is_for : ℕ → Owned → Bool
is_for p shared = may_own p shared.owner

-- whether the shared table takes the entry of a class of this producer
abbrev pub takes : List Owned → ℕ → ℕ → Bool
takes shared p class =
    nat_lt class (length shared) && is_for p (slice_index_or shared class free)

-- the entries of a producer: that of a class is the shared one if the producer owns it, otherwise
-- that of its own table
abbrev pub overlaid : List Owned → ℕ → List Entry → List Entry
overlaid [] p rows = rows
overlaid (first ∷ shared) p [] = []
overlaid (first ∷ shared) p (row ∷ rows) =
    (if is_of p first then entry_of first else row) ∷ overlaid shared p rows

-- the entries of each producer from p on, by their own tables
abbrev pub rows_from : List Owned → ℕ → List Table → List (List Entry)
rows_from shared p [] = []
rows_from shared p (table ∷ tables) = overlaid shared p table.rows ∷ rows_from shared (suc p) tables

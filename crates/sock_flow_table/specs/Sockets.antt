-- The socket flow table (kernel scaling chapter, section RFS: `rps_sock_flow_table`), seen as the
-- list of its entries: each is the processor noted there last, or none since the table was cleared.
use Rattle.std.specs.Prelude.{ℕ, ◌%◌, Bool, ◌&&◌, List, Option, Some, None, ◌==◌, nat_lt}
use Rattle.std.specs.Prelude.{map, filter}
use Rattle.std.specs.List.{fold}
use Rattle.steer_base.specs.HashTables.{cleared_rows, place_in_rows, row_at, with_row}
use Rattle.steer_base.specs.Entries.{last_or}

-- a socket flow table of this many entries, all of them unset
abbrev pub unset : ℕ → List (Option ℕ)
unset size = cleared_rows size None

-- the processor that a hash finds in a socket flow table
abbrev pub wanted : List (Option ℕ) → ℕ → Option ℕ
wanted entries hash = row_at None entries (place_in_rows entries (Some hash))

-- the socket flow table after a processor was noted for a hash
abbrev pub noted : List (Option ℕ) → ℕ → ℕ → List (Option ℕ)
noted entries hash cpu = with_row entries (place_in_rows entries (Some hash)) (Some cpu)

-- one note: a processor for a hash
pub record Note : Type 0 where
  pub hash : ℕ
  pub cpu : ℕ

-- the socket flow table of this many entries after these notes since it was cleared, oldest first
abbrev pub after_notes : ℕ → List Note → List (Option ℕ)
after_notes size notes = fold (λ entries note. noted entries note.hash note.cpu) (unset size) notes

-- whether two hashes share an entry in a table of this many entries
abbrev pub share_entry : (size a b : ℕ) → Bool
share_entry size a b = nat_lt 0 size && a % size == b % size

-- the processor of the last of these notes whose hash shares the entry of this hash, if any
abbrev pub last_noted : ℕ → List Note → ℕ → Option ℕ
last_noted size notes hash =
    last_or None
    (map (λ note. Some note.cpu) (filter (λ note. share_entry size note.hash hash) notes))

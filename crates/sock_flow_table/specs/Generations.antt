-- Entries that keep the generation in which they were noted: those of an older one are unset, so
-- that the table is cleared by counting its generation on.
use Rattle.std.specs.Prelude.{ℕ, ◌≤◌, List, Option, Some, None, ◌==◌, map, All}
use Rattle.std.specs.Prelude.{if◌then◌else◌}
use Rattle.sock_flow_table.specs.declared.noted.Noted.{Noted}

-- the processor in an entry, where it was noted in this generation
abbrev pub current : ℕ → Noted → Option ℕ
current generation noted = if noted.generation == generation then Some noted.cpu else None

-- the entries as a table that is in this generation shows them
abbrev pub shown : ℕ → List Noted → List (Option ℕ)
shown generation entries = map (current generation) entries

-- no entry was noted in a later generation
abbrev pub AreUpTo : ℕ → List Noted → Type 0
AreUpTo generation entries = All (λ noted. noted.generation ≤ generation) entries

-- the entry of a table that was never used
abbrev pub never : Noted
never = record { generation = 0; cpu = 0 }

-- The redirection table of a card with receive side scaling (Intel 82599 datasheet, 128 entries).
use Rattle.std.specs.Prelude.{◌≡◌, ℕ, ◌<◌, ◌≤◌, All, Bool, ◌&&◌, nat_lt, List, length, Option, Some}
use Rattle.std.specs.Prelude.{None, slice_index, slice_set}
use Rattle.steer_base.specs.Arrivals.{even_entries, table_place}
use Rattle.rss_table.specs.declared.reta.TheConstants.{RETA_ENTRIES}

-- a redirection table: the number of receive queues, and the queue of each entry
pub record Redirection : Type 0 where
  pub queues : ℕ
  pub entries : List ℕ

-- what holds of every redirection table: 1 to 16 queues, and 128 entries, each naming one of them
pub record IsRedirection (table : Redirection) : Type 0 where
  pub some : 0 < table.queues
  pub few : table.queues ≤ 16
  pub size : length table.entries ≡ RETA_ENTRIES
  pub below : All (λ queue. queue < table.queues) table.entries

-- the default redirection table: entry i is queue i mod the number of queues
abbrev pub even_table : ℕ → Redirection
even_table queues = record { queues = queues; entries = even_entries queues }

-- whether a redirection table has this entry and this queue
abbrev pub is_in_range : Redirection → ℕ → ℕ → Bool
is_in_range table i queue = nat_lt i RETA_ENTRIES && nat_lt queue table.queues

-- the redirection table with another queue at entry i
abbrev pub with_entry : Redirection → ℕ → ℕ → Redirection
with_entry table i queue = record table { entries = slice_set table.entries i queue }

-- the queue of a packet by the redirection table: that of entry `hash mod 128`, queue 0 without a
-- hash
abbrev pub queue_of : Redirection → Option ℕ → ℕ
queue_of table None = 0
queue_of table (Some hash) = slice_index table.entries (table_place hash)

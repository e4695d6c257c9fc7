-- When the wants of choices are among the writes to the socket flow table.
use Rattle.std.specs.Prelude.{ℕ, Bool, true, false, ◌&&◌, ◌==◌, List, Option, Some, None}
use Rattle.std.specs.List.{list_any}
use Rattle.steer_base.specs.Choices.{class_of}
use Rattle.steer_base.specs.declared.choice.Chosen.{Chosen}
use Rattle.history.specs.declared.sock_write.SockWrite.{SockWrite}
use Rattle.steer_model.specs.State.Setup.{Setup, packet_hash}

-- whether a write is of this entry and processor
abbrev pub is_write_of : ℕ → ℕ → SockWrite → Bool
is_write_of place cpu w = (w.entry == place) && (w.cpu == cpu)

-- whether an application made this write
abbrev pub was_written : ℕ → ℕ → List (List SockWrite) → Bool
was_written place cpu writes = list_any (λ ws. list_any (is_write_of place cpu) ws) writes

-- whether a processor is in a set of writes at an entry, if there is one
abbrev pub is_at : (ℕ → ℕ → Bool) → ℕ → Option ℕ → Bool
is_at set cpu None = false
is_at set cpu (Some place) = set place cpu

-- whether a want is in a set of writes at the entry of a hash, by the size of the table; a want
-- that is not set is in any
abbrev pub hash_is_in : ℕ → (ℕ → ℕ → Bool) → Option ℕ → Option ℕ → Bool
hash_is_in size set None hash = true
hash_is_in size set (Some cpu) hash = is_at set cpu (class_of size hash)

-- the same of the want of a choice, at the entry of its packet
abbrev pub want_is_in : Setup → ℕ → (ℕ → ℕ → Bool) → Chosen → Bool
want_is_in p size set c = hash_is_in size set c.choice.want (packet_hash p c.id)

-- What holds of the parts of a hop.
use Rattle.std.specs.Prelude.{ℕ, ◌<◌, ◌≤◌, ◌≡◌, length, slice_index}
use Rattle.steer_base.specs.Entries.{entry}
use Rattle.dev_flow_table.specs.Tables.{entries}
use Rattle.hop_model.specs.Events.{IsClassBelow}
use Rattle.hop_core.specs.FlowTables.{FlowTables, table_at}
use Rattle.hop_model.specs.Hop.{HopState, accepted_at, chosen_at, choices_of, recent, since_of}
use Rattle.hop_model.specs.Sound.{Sound}
use Rattle.hop_core.specs.View.{HopParts, state_of}

-- The flow tables hold the entries that the lists give, and the classes since the last resize are
-- in range.
pub record Tabled (s : HopState) (tables : FlowTables) : Type 0 where
  pub start : tables.start ≡ s.fixed.start
  pub many : length tables.rows ≡ length s.arrivals
  pub long : (p : ℕ) → length (table_at tables p).rows ≡ slice_index s.counts p
  pub rows : (p k : ℕ) → k < slice_index s.counts p
      → entries (table_at tables p) k ≡ entry s.fixed.start (accepted_at s.bare) (recent s p) k
  pub classes : (p i : ℕ) → since_of s p ≤ i → i < length (choices_of s p)
      → IsClassBelow (slice_index s.counts p) (chosen_at (choices_of s p) i).choice.class

-- The invariant of a hop's parts: they represent a sound hop, its flow tables have the entries of
-- its lists, and there are at most 96 actors and 32 lanes, with one room for all lists.
pub record IsWhole (h : HopParts) : Type 0 where
  pub sound : Sound (state_of h)
  pub tabled : Tabled (state_of h) h.tables
  pub actors : length h.visits ≤ 96
  pub lanes : length h.lanes.accepted ≤ 32
  pub arrivals_room : h.arrivals.room ≡ h.lanes.room
  pub choices_room : h.choices.room ≡ h.lanes.room
  pub outs_room : h.outs.room ≡ h.lanes.room

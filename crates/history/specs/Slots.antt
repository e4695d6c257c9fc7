-- The slots that the lines of a history are made from.
use Rattle.std.specs.Prelude.{ℕ, ◌<◌, ◌≡◌, zero, suc, Option, Some, None, length}
use Rattle.std.specs.Prelude.{slice_index_or}
use Rattle.steer_base.specs.Entries.{place_in}
use Rattle.history.specs.Finding.{first_some}
use Rattle.history.specs.Index.{IsIndex}
use Rattle.history.specs.Lines.{accepted_place, drop_in, inbox_place_of}
use Rattle.history.specs.declared.history.History.{History}
use Rattle.history.specs.declared.lines.slots.Slots.{Slots}

-- the slots have for each packet that arrived its places and its drop
pub record AreSlots (h : History) (s : Slots) : Type 0 where
  pub accepted : IsIndex (length h.arrivals) s.accepted (accepted_place h.lanes)
  pub drops : (x : ℕ) → x < length h.arrivals
      → slice_index_or s.drops x None ≡ first_some (drop_in x) h.lanes
  pub inboxes : IsIndex (length h.arrivals) s.inboxes (inbox_place_of h)
  pub tx_accepted : IsIndex (length h.arrivals) s.tx_accepted (accepted_place h.tx_lanes)
  pub port : IsIndex (length h.arrivals) s.port (λ x. place_in x h.port)

-- the index of a place that is counted from 1
abbrev pub index_before : ℕ → Option ℕ
index_before zero = None
index_before (suc n) = Some n

-- What was looked up of the packets of an inbox, ahead of their turn.
use Rattle.std.specs.Prelude.{ℕ, ◌≡◌, ◌<◌, ◌+◌, ◌≤◌, List, slice_index_or}
use Rattle.history.specs.Lists.{packet_at}
use Rattle.report_history.specs.Shown.{shown_sent}
use Rattle.report_history.specs.declared.replies.Ahead.{Ahead}
use Rattle.report_history.specs.declared.replies.TheConstants.{AHEAD}
use Rattle.report_reader.specs.declared.slots.Seen.{Seen}
use Rattle.steer_base.specs.declared.packet.Packet.{Packet}

-- the reply to a packet, and its flow number
abbrev pub ahead_of : List Seen → List Packet → ℕ → Ahead
ahead_of seen packets x =
    record { sent = shown_sent seen x; flow = (packet_at packets x).flow_number }

-- so many packets from the first on are looked up
pub record AreAhead (seen : List Seen) (packets : List Packet) (ids : List ℕ) (first known : ℕ)
    (ahead : List Ahead) : Type 0 where
  pub few : known ≤ AHEAD
  pub each : (k : ℕ) (d : Ahead) → k < known
      → slice_index_or ahead k d ≡ ahead_of seen packets (slice_index_or ids (first + k) 0)

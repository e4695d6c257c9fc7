-- What was looked up of the packets and of the replies whose lines are asked for in packet order.
use Rattle.std.specs.Prelude.{ℕ, ◌≡◌, ◌<◌, ◌+◌, ◌≤◌, List, Option, None, length, slice_get}
use Rattle.std.specs.Prelude.{slice_index_or}
use Rattle.std.specs.Option.{option_and_then, option_map}
use Rattle.history.specs.declared.lines.begun.Begun.{Begun}
use Rattle.history.specs.declared.lines.in_order.TheConstants.{AHEAD}
use Rattle.history.specs.declared.packet_line.PacketLine.{PacketLine}
use Rattle.history.specs.declared.reply_line.ReplyLine.{ReplyLine}

-- the processor on the line of a packet, if one was chosen
abbrev pub lane_at : (lines : List PacketLine) → (x : ℕ) → Option ℕ
lane_at lines x = option_and_then (λ line. option_map (λ c. c.lane) line.choice) (slice_get lines x)

-- processors that are those of the lines of so many packets from the first on
pub record AreLanes (lines : List PacketLine) (first known : ℕ) (lanes : List (Option ℕ)) : Type 0
  where
    pub few : known ≤ AHEAD
    pub within : first + known ≤ length lines
    pub lane : (k : ℕ) → k < known → slice_index_or lanes k None ≡ lane_at lines (first + k)

-- what the lists of an application say of the reply that has this line
abbrev pub begun_of : ReplyLine → Begun
begun_of line = record { rxq = line.rxq; cpu = line.cpu; choice = line.choice }

-- replies that are those of the lines of so many packets from the first on
pub record AreBegun (lines : List (Option ReplyLine)) (first known : ℕ)
    (replies : List (Option Begun)) : Type 0 where
  pub few : known ≤ AHEAD
  pub within : first + known ≤ length lines
  pub reply : (k : ℕ) → k < known
      → slice_index_or replies k None ≡ option_map begun_of (slice_index_or lines (first + k) None)

-- What two histories with equal reports have in common: their lines and sums.
use Rattle.std.specs.Prelude.{ℕ, ◌<◌, ◌≤◌, ◌≡◌, List, Option, None, length, map}
use Rattle.std.specs.Option.{option_map}
use Rattle.steer_base.specs.declared.choice.Choice.{Choice}
use Rattle.steer_base.specs.declared.limits.TheConstants.{MAX_PACKETS}
use Rattle.steer_base.specs.declared.packet.Packet.{Packet}
use Rattle.history.specs.Lines.{packet_line, reply_line}
use Rattle.history.specs.Regular.{Regular, AreQueued}
use Rattle.history.specs.declared.history.History.{History}
use Rattle.history.specs.declared.lane_list.LaneList.{LaneList}
use Rattle.history.specs.declared.packet_line.PacketLine.{PacketLine}
use Rattle.history.specs.declared.reply_line.ReplyLine.{ReplyLine}

-- how many packets of a lane were pulled, delivered and retired
pub record Sums : Type 0 where
  pub pulled : ℕ
  pub delivered : ℕ
  pub retired : ℕ

-- the numbers of a lane that are not lengths of its lists
abbrev pub sums_of : LaneList → Sums
sums_of lane = record { pulled = lane.pulled; delivered = lane.delivered; retired = lane.retired }

-- a choice without its class, as the line of a reply shows it
abbrev pub without_class : Choice → Choice
without_class c = record c { class = None }

-- the line of a reply as a report shows it
abbrev pub shown_of : ReplyLine → ReplyLine
shown_of r = record r { choice = option_map without_class r.choice }

-- Two lines of one packet show the same. Number, application and flow number belong to the packet,
-- and the place is not compared.
pub record SamePacket (l m : PacketLine) : Type 0 where
  pub queue : l.queue ≡ m.queue
  pub via : l.via ≡ m.via
  pub choice : l.choice ≡ m.choice
  pub put : l.put ≡ m.put
  pub inbox : l.inbox ≡ m.inbox

-- two lines of the reply to one packet show the same, or both are missing
abbrev pub SameReply : Option ReplyLine → Option ReplyLine → Type 0
SameReply l m = option_map shown_of l ≡ option_map shown_of m

-- two histories have the same counter start, lines, sums, writes and commands
pub record SameShown (packets : List Packet) (apps : ℕ) (h k : History) : Type 0 where
  pub start : h.start ≡ k.start
  pub total : h.total ≡ k.total
  pub cut : h.cut ≡ k.cut
  pub arrived : length h.arrivals ≡ length k.arrivals
  pub packet : (x : ℕ) → x < length h.arrivals
      → SamePacket (packet_line packets apps h x) (packet_line packets apps k x)
  pub reply : (x : ℕ) → x < length h.arrivals
      → SameReply (reply_line packets apps h x) (reply_line packets apps k x)
  pub taken : h.taken ≡ k.taken
  pub lanes : map sums_of h.lanes ≡ map sums_of k.lanes
  pub tx_lanes : map sums_of h.tx_lanes ≡ map sums_of k.tx_lanes
  pub writes : h.writes ≡ k.writes
  pub commands : h.commands ≡ k.commands

-- a regular history is determined by its lines, sums, writes and commands
abbrev pub IsFoundAgain : Type 0
IsFoundAgain =
    (packets : List Packet) (apps : ℕ) (h k : History) → length packets ≤ MAX_PACKETS
    → Regular packets apps h → AreQueued packets h → Regular packets apps k → AreQueued packets k
    → SameShown packets apps h k → h ≡ k

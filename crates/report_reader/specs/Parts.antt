-- What the sections of a report of a history show.
use Rattle.std.specs.Prelude.{ℕ, suc, ◌≡◌, ◌≤◌, ◌<◌, ◌^◌, ◌*◌, ◌+◌, List, [], ◌∷◌, ◌++◌, length}
use Rattle.std.specs.Prelude.{map}
use Rattle.std.specs.List.{filter_map}
use Rattle.std.specs.Option.{option_map}
use Rattle.steer_base.specs.declared.limits.TheConstants.{MAX_PACKETS}
use Rattle.steer_base.specs.declared.packet.Packet.{Packet}
use Rattle.history.specs.Lines.{lines_of}
use Rattle.history.specs.Shown.{without_class}
use Rattle.history.specs.declared.history.History.{History}
use Rattle.history.specs.declared.lane_list.LaneList.{LaneList}
use Rattle.history.specs.declared.packet_line.PacketLine.{PacketLine}
use Rattle.history.specs.declared.reply_line.ReplyLine.{ReplyLine}
use Rattle.history.specs.declared.sock_write.SockWrite.{SockWrite}
use Rattle.report.specs.Laws.{IsReportOf}
use Rattle.report_reader.specs.declared.packets.SeenPacket.{SeenPacket}
use Rattle.report_reader.specs.declared.packets.SeenReply.{SeenReply}
use Rattle.report_reader.specs.declared.parts.Parts.{Parts}
use Rattle.report_reader.specs.declared.shortest.TheConstants.{SHORTEST_COMMAND, SHORTEST_CPU}
use Rattle.report_reader.specs.declared.shortest.TheConstants.{SHORTEST_PACKET, SHORTEST_QUEUE}
use Rattle.report_reader.specs.declared.shortest.TheConstants.{SHORTEST_REPLY, SHORTEST_TAP}
use Rattle.report_reader.specs.declared.shortest.TheConstants.{SHORTEST_TX, SHORTEST_WRITE}
use Rattle.report_reader.specs.declared.sums.AppWrite.{AppWrite}
use Rattle.report_reader.specs.declared.sums.LaneSums.{LaneSums}

-- what is kept of the line of a packet
abbrev pub seen_packet : PacketLine → SeenPacket
seen_packet l =
    record {
      queue = l.queue;
      via = l.via;
      choice = l.choice;
      put = l.put;
      app = l.app;
      inbox = l.inbox;
    }

-- what is kept of the line of a reply: its choice has no class there
abbrev pub seen_reply : ReplyLine → SeenReply
seen_reply r =
    record {
      id = r.id;
      rxq = r.rxq;
      cpu = r.cpu;
      choice = option_map without_class r.choice;
      put = r.put;
      port = r.port;
    }

-- the sums of a lane
abbrev pub lane_sums : LaneList → LaneSums
lane_sums lane =
    record { pulled = lane.pulled; delivered = lane.delivered; retired = lane.retired }

-- the writes of the applications from this one on, one after the other
abbrev pub writes_from : ℕ → List (List SockWrite) → List AppWrite
writes_from app [] = []
writes_from app (writes ∷ rest) =
    map (λ w. record { app = app; write = w }) writes ++ writes_from (suc app) rest

-- these are the parts of the report of a history with these texts of taps
pub record ArePartsOf (capture : List Packet) (apps : ℕ) (h : History) (shown : List (List ℕ))
    (p : Parts) : Type 0 where
  pub packets : p.packets.items ≡ map seen_packet (lines_of capture apps h).packets
  pub replies : p.replies.items
      ≡ filter_map (λ line. option_map seen_reply line) (lines_of capture apps h).replies
  pub taken : p.taken.items ≡ h.taken
  pub cpus : p.cpus.items ≡ map lane_sums h.lanes
  pub txs : p.txs.items ≡ map lane_sums h.tx_lanes
  pub writes : p.writes.items ≡ writes_from 0 h.writes
  pub commands : p.commands.items ≡ h.commands
  pub texts : p.texts.items ≡ shown
  pub total : p.last.total ≡ h.total
  pub cut : p.last.cut ≡ h.cut

-- Whatever history bytes are the report of, for at most so many packets, these are its parts.
abbrev pub AreParts : List ℕ → ℕ → Parts → Type 0
AreParts bytes most p =
    (packets : List Packet) (apps start : ℕ) (h : History) (texts : List (List ℕ)) → 1 ≤ apps
    → apps < 2 ^ 8 → length packets ≤ most → length packets ≤ MAX_PACKETS
    → IsReportOf packets apps start h texts bytes → ArePartsOf packets apps h texts p

-- so many bytes hold the rows of these parts, even if each is the shortest of its kind
abbrev pub FitInto : ℕ → Parts → Type 0
FitInto bytes p =
    length p.packets.items * SHORTEST_PACKET + length p.replies.items * SHORTEST_REPLY
    + length p.taken.items * SHORTEST_QUEUE + length p.cpus.items * SHORTEST_CPU
    + length p.txs.items * SHORTEST_TX + length p.writes.items * SHORTEST_WRITE
    + length p.commands.items * SHORTEST_COMMAND + length p.texts.items * SHORTEST_TAP ≤ bytes

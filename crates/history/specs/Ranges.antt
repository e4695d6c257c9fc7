-- The numbers of a history are within the types of its fields: those of 8 bits, of 16 and of 32. So
-- they are in every history that a program holds.
use Rattle.std.specs.Prelude.{ℕ, ◌<◌, ◌≤◌, ◌^◌, ⊤, List, Option, length}
use Rattle.std.specs.List.{All}
use Rattle.std.specs.Option.{IfSome}
use Rattle.steer_base.specs.declared.choice.Choice.{Choice}
use Rattle.steer_base.specs.declared.choice.Chosen.{Chosen}
use Rattle.steer_base.specs.declared.command.Answer.{Answer}
use Rattle.steer_base.specs.declared.command.Answer.TheVariants as answer
use Rattle.steer_base.specs.declared.command.Busy.TheVariants as busy
use Rattle.steer_base.specs.declared.command.Command.{Command}
use Rattle.steer_base.specs.declared.command.Command.TheVariants as command
use Rattle.steer_base.specs.declared.command.User.TheVariants as user
use Rattle.steer_base.specs.declared.limits.TheConstants.{MAX_PACKETS}
use Rattle.steer_base.specs.declared.packet.Packet.{Packet}
use Rattle.steer_base.specs.declared.put.DropCause.{DropCause}
use Rattle.steer_base.specs.declared.put.DropCause.TheVariants.{Full, Flow}
use Rattle.steer_base.specs.declared.put.LaneDrop.{LaneDrop}
use Rattle.steer_base.specs.declared.put.Put.{Put}
use Rattle.steer_base.specs.declared.put.Put.TheVariants.{At, Dropped}
use Rattle.history.specs.Lines.{packet_line, reply_line}
use Rattle.history.specs.Regular.{Regular}
use Rattle.history.specs.declared.arrival.Arrival.{Arrival}
use Rattle.history.specs.declared.commanded.Commanded.{Commanded}
use Rattle.history.specs.declared.history.History.{History}
use Rattle.history.specs.declared.lane_list.LaneList.{LaneList}
use Rattle.history.specs.declared.packet_line.PacketLine.{PacketLine}
use Rattle.history.specs.declared.reply_line.ReplyLine.{ReplyLine}
use Rattle.history.specs.declared.sent.Sent.{Sent}
use Rattle.history.specs.declared.sock_write.SockWrite.{SockWrite}

-- an optional number is below 2 to the power of `bits`
abbrev pub FitsIn : ℕ → Option ℕ → Type 0
FitsIn bits o = IfSome o (λ n. n < 2 ^ bits)

-- the numbers of an arrival are within the types of its fields
pub record ArrivalFits (a : Arrival) : Type 0 where
  pub id : a.id < 2 ^ 32
  pub queue : a.queue < 2 ^ 8
  pub filter : FitsIn 8 a.filter
  pub entry : FitsIn 8 a.entry

-- the numbers of a choice are within the types of its fields
pub record ChoiceFits (c : Choice) : Type 0 where
  pub class : FitsIn 32 c.class
  pub want : FitsIn 8 c.want
  pub head : FitsIn 32 c.head
  pub tail : FitsIn 32 c.tail
  pub lane : c.lane < 2 ^ 8

-- the numbers of a packet's choice are within the types of its fields
pub record ChosenFits (c : Chosen) : Type 0 where
  pub id : c.id < 2 ^ 32
  pub choice : ChoiceFits c.choice

-- the numbers of a drop's cause are within the types of its fields
abbrev pub CauseFits : DropCause → Type 0
CauseFits Full = ⊤
CauseFits (Flow offers) = offers < 2 ^ 32

-- the numbers of a drop are within the types of its fields
pub record DropFits (d : LaneDrop) : Type 0 where
  pub id : d.id < 2 ^ 32
  pub accepted : d.accepted < 2 ^ 32
  pub pulled : d.pulled < 2 ^ 32
  pub cause : CauseFits d.cause

-- the numbers of a lane are within the types of its fields
pub record LaneFits (l : LaneList) : Type 0 where
  pub accepted : All (λ x. x < 2 ^ 32) l.accepted
  pub drops : All DropFits l.drops
  pub pulled : l.pulled < 2 ^ 32
  pub delivered : l.delivered < 2 ^ 32
  pub retired : l.retired < 2 ^ 32

-- the numbers of a reply are within the types of its fields
pub record SentFits (s : Sent) : Type 0 where
  pub id : s.id < 2 ^ 32
  pub rxq : s.rxq < 2 ^ 8
  pub cpu : s.cpu < 2 ^ 8

-- the numbers of a write to the socket flow table are within the types of its fields
pub record WriteFits (w : SockWrite) : Type 0 where
  pub entry : w.entry < 2 ^ 32
  pub cpu : w.cpu < 2 ^ 8

-- the numbers of a command are within the types of its fields
abbrev pub CommandFits : Command → Type 0
CommandFits (command.Mask queue cpus) = (queue < 2 ^ 8) × (cpus.0 < 2 ^ 32)
CommandFits (command.Flows queue count) = (queue < 2 ^ 8) × (count < 2 ^ 32)
CommandFits (command.Sock size) = size < 2 ^ 32
CommandFits (command.Offline cpu) = cpu < 2 ^ 8
CommandFits (command.Online cpu) = cpu < 2 ^ 8
CommandFits (command.XCpus tx cpus) = (tx < 2 ^ 8) × (cpus.0 < 2 ^ 32)
CommandFits (command.XQueues tx queues) = (tx < 2 ^ 8) × (queues < 2 ^ 16)
CommandFits (command.Reta place queue) = (place < 2 ^ 8) × (queue < 2 ^ 8)
CommandFits (command.Stand app cpu) = (app < 2 ^ 8) × (cpu < 2 ^ 8)
CommandFits command.Expire = ⊤

-- the numbers of an answer are within the types of its fields
abbrev pub AnswerFits : Answer → Type 0
AnswerFits answer.Done = ⊤
AnswerFits (answer.Idle why) = ⊤
AnswerFits (answer.Busy (busy.Inside actors)) = actors < 2 ^ 32
AnswerFits (answer.Busy (busy.NotEmpty lane head tail)) =
    (lane < 2 ^ 8) × (head < 2 ^ 32) × (tail < 2 ^ 32)
AnswerFits (answer.CpuInUse (user.Queue queue)) = queue < 2 ^ 8
AnswerFits (answer.CpuInUse (user.App app)) = app < 2 ^ 8
AnswerFits answer.CpuOffline = ⊤
AnswerFits (answer.Expired filters) = filters < 2 ^ 32

-- the numbers of a command and its answer are within the types of their fields
pub record CommandedFits (c : Commanded) : Type 0 where
  pub command : CommandFits c.command
  pub answer : AnswerFits c.answer

-- the numbers of a history are within the types of its fields
pub record HistoryFits (h : History) : Type 0 where
  pub total : h.total < 2 ^ 32
  pub cut : FitsIn 32 h.cut
  pub arrivals : All ArrivalFits h.arrivals
  pub taken : All (λ n. n < 2 ^ 32) h.taken
  pub choices : All (All ChosenFits) h.choices
  pub lanes : All LaneFits h.lanes
  pub inboxes : All (All (λ x. x < 2 ^ 32)) h.inboxes
  pub sent : All (All SentFits) h.sent
  pub tx_choices : All (All ChosenFits) h.tx_choices
  pub tx_lanes : All LaneFits h.tx_lanes
  pub port : All (λ x. x < 2 ^ 32) h.port
  pub writes : All (All WriteFits) h.writes
  pub commands : All CommandedFits h.commands
  pub start : h.start < 2 ^ 32

-- the numbers of a put's result are within the types of its fields
abbrev pub PutFits : Put → Type 0
PutFits (At position) = position < 2 ^ 32
PutFits (Dropped number accepted pulled cause) =
    (number < 2 ^ 32) × (accepted < 2 ^ 32) × (pulled < 2 ^ 32) × CauseFits cause

-- The numbers of a packet's line are within the types of its fields, apart from those that the
-- packet itself has.
pub record PacketFits (l : PacketLine) : Type 0 where
  pub queue : l.queue < 2 ^ 8
  pub choice : IfSome l.choice ChoiceFits
  pub put : IfSome l.put PutFits
  pub inbox : FitsIn 32 l.inbox

-- The numbers of a reply's line are within the types of its fields, apart from those that the
-- packet itself has.
pub record ReplyFits (r : ReplyLine) : Type 0 where
  pub rxq : r.rxq < 2 ^ 8
  pub cpu : r.cpu < 2 ^ 8
  pub choice : IfSome r.choice ChoiceFits
  pub put : FitsIn 32 r.put
  pub port : FitsIn 32 r.port

-- The numbers in the lines of a regular history are within the types of the lines' fields.
abbrev pub HaveLinesThatFit : Type 0
HaveLinesThatFit =
    (packets : List Packet) (apps : ℕ) (h : History) → length packets ≤ MAX_PACKETS
    → Regular packets apps h → HistoryFits h
    → (x : ℕ)
    → PacketFits (packet_line packets apps h x) × IfSome (reply_line packets apps h x) ReplyFits

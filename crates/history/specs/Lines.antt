-- What a history says about one packet: the line of its way in, and the line of its reply.
use Rattle.std.specs.Prelude.{ℕ, Bool, List, Option, is_some, length, map, if◌then◌else◌}
use Rattle.std.specs.List.{list_any, range_with_len}
use Rattle.std.specs.Option.{option_map, option_or, option_and_then}
use Rattle.steer_base.specs.Counters.{number}
use Rattle.steer_base.specs.Entries.{place_in}
use Rattle.steer_base.specs.declared.choice.Choice.{Choice}
use Rattle.steer_base.specs.declared.choice.Chosen.{Chosen}
use Rattle.steer_base.specs.declared.packet.Packet.{Packet}
use Rattle.steer_base.specs.declared.put.LaneDrop.{LaneDrop}
use Rattle.steer_base.specs.declared.put.Put.{Put}
use Rattle.steer_base.specs.declared.put.Put.TheVariants.{At, Dropped}
use Rattle.history.specs.Finding.{is_in, found, first_some}
use Rattle.history.specs.Lists.{packet_at, app_at, arrival_of, arrivals_at, drop_ids}
use Rattle.history.specs.Places.{place_of}
use Rattle.history.specs.declared.arrival.Arrival.{Arrival}
use Rattle.history.specs.declared.history.History.{History}
use Rattle.history.specs.declared.lane_list.LaneList.{LaneList}
use Rattle.history.specs.declared.packet_line.PacketLine.{PacketLine}
use Rattle.history.specs.declared.packet_line.Via.{Via}
use Rattle.history.specs.declared.packet_line.Via.TheVariants.{Filter, Reta, Unhashed}
use Rattle.history.specs.declared.reply_line.ReplyLine.{ReplyLine}
use Rattle.history.specs.declared.sent.Sent.{Sent}

-- what led to the queue of an arrival
abbrev pub via_of : Arrival → Via
via_of a = if is_some a.filter then Filter else if is_some a.entry then Reta else Unhashed

-- the choice for a packet in a list of choices
abbrev pub choice_in : ℕ → List Chosen → Option Choice
choice_in x choices = option_map (λ c. c.choice) (found (λ c. c.id) x choices)

-- the processor choice of a packet in a history
abbrev pub choice_of : History → ℕ → Option Choice
choice_of h x = first_some (choice_in x) h.choices

-- the transmit queue choice of the reply to a packet
abbrev pub tx_choice_of : History → ℕ → Option Choice
tx_choice_of h x = first_some (choice_in x) h.tx_choices

-- the place of a packet among those that a lane accepted, from 1, at the first lane that did
abbrev pub accepted_place : List LaneList → ℕ → Option ℕ
accepted_place lanes x = first_some (λ lane. place_in x lane.accepted) lanes

-- the position of a packet in the backlogs: the counter number of its place
abbrev pub position_of : History → ℕ → Option ℕ
position_of h x = option_map (number h.start) (accepted_place h.lanes x)

-- the position of the reply to a packet in the transmit queues: the counter number of its place
abbrev pub tx_position_of : History → ℕ → Option ℕ
tx_position_of h x = option_map (number h.start) (accepted_place h.tx_lanes x)

-- a drop with its number, as the result of a put
abbrev pub dropped_as : LaneDrop → ℕ → Put
dropped_as d n = Dropped n d.accepted d.pulled d.cause

-- the drop of a packet at a lane, with its number from 1
abbrev pub drop_in : ℕ → LaneList → Option Put
drop_in x lane =
    option_and_then (λ d. option_map (dropped_as d) (place_in x (drop_ids lane)))
    (found (λ d. d.id) x lane.drops)

-- the result of putting a packet to a processor: its position, or else its drop
abbrev pub put_of : History → ℕ → Option Put
put_of h x = option_or (option_map (λ n. At n) (position_of h x)) (first_some (drop_in x) h.lanes)

-- the place of a packet in the inboxes, from 1
abbrev pub inbox_place_of : History → ℕ → Option ℕ
inbox_place_of h x = first_some (place_in x) h.inboxes

-- the reply to a packet, if one was begun
abbrev pub first_reply_to : History → ℕ → Option Sent
first_reply_to h x = first_some (found (λ s. s.id) x) h.sent

-- whether a reply to a packet was begun
abbrev pub is_replied : History → ℕ → Bool
is_replied h x = list_any (λ list. is_in x (map (λ s. s.id) list)) h.sent

-- the line of a packet that arrived
abbrev pub packet_line : List Packet → ℕ → History → ℕ → PacketLine
packet_line packets apps h x =
    record {
      id = x;
      queue = (arrival_of h.arrivals x).queue;
      via = via_of (arrival_of h.arrivals x);
      choice = choice_of h x;
      put = put_of h x;
      app = app_at packets apps x;
      inbox = inbox_place_of h x;
      place = place_of h x;
      flow_number = (packet_at packets x).flow_number;
    }

-- the line of a reply that was begun
abbrev pub line_of_sent : List Packet → ℕ → History → ℕ → Sent → ReplyLine
line_of_sent packets apps h x sent =
    record {
      id = x;
      app = app_at packets apps x;
      rxq = sent.rxq;
      cpu = sent.cpu;
      choice = tx_choice_of h x;
      put = tx_position_of h x;
      port = place_in x h.port;
      flow_number = (packet_at packets x).flow_number;
    }

-- the line of the reply to a packet, if one was begun
abbrev pub reply_line : List Packet → ℕ → History → ℕ → Option ReplyLine
reply_line packets apps h x = option_map (line_of_sent packets apps h x) (first_reply_to h x)

-- The lines of all packets that arrived, the lines of their replies, and the number of arrivals of
-- each queue.
pub record LineLists : Type 0 where
  pub packets : List PacketLine
  pub replies : List (Option ReplyLine)
  pub arrived : List ℕ

-- all lines of a history
abbrev pub lines_of : List Packet → ℕ → History → LineLists
lines_of packets apps h =
    record {
      packets = map (packet_line packets apps h) (range_with_len 0 (length h.arrivals));
      replies = map (reply_line packets apps h) (range_with_len 0 (length h.arrivals));
      arrived = map (λ q. length (arrivals_at h.arrivals q)) (range_with_len 0 (length h.taken));
    }

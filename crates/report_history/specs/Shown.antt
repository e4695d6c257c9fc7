-- What the lines of a report show of a packet, as the lists of a history have it.
use Rattle.std.specs.Prelude.{ℕ, ◌==◌, ◌+◌, List, [], ◌∷◌, Option, Some, None, if◌then◌else◌}
use Rattle.std.specs.List.{slice_get}
use Rattle.std.specs.Option.{option_and_then, option_map}
use Rattle.steer_base.specs.declared.choice.Choice.{Choice}
use Rattle.steer_base.specs.declared.choice.Chosen.{Chosen}
use Rattle.steer_base.specs.declared.packet.Packet.{Packet}
use Rattle.steer_base.specs.declared.put.LaneDrop.{LaneDrop}
use Rattle.steer_base.specs.declared.put.Put.{Put}
use Rattle.steer_base.specs.declared.put.Put.TheVariants.{At, Dropped}
use Rattle.history.specs.Lists.{packet_at}
use Rattle.history.specs.declared.arrival.Arrival.{Arrival}
use Rattle.history.specs.declared.packet_line.Via.{Via}
use Rattle.history.specs.declared.packet_line.Via.TheVariants.{Filter, Reta, Unhashed}
use Rattle.history.specs.declared.sent.Sent.{Sent}
use Rattle.history.specs.declared.sock_write.SockWrite.{SockWrite}
use Rattle.report_reader.specs.declared.packets.SeenReply.{SeenReply}
use Rattle.report_reader.specs.declared.slots.Seen.{Seen}
use Rattle.report_reader.specs.declared.sums.AppWrite.{AppWrite}

-- the choice for a packet
abbrev pub shown_choice : List Seen → ℕ → Option Choice
shown_choice seen x = option_and_then (λ s. s.packet.choice) (slice_get seen x)

-- what became of a packet at its lane
abbrev pub shown_put : List Seen → ℕ → Option Put
shown_put seen x = option_and_then (λ s. s.packet.put) (slice_get seen x)

-- the line of the reply to a packet
abbrev pub shown_reply : List Seen → ℕ → Option SeenReply
shown_reply seen x = option_and_then (λ s. s.reply) (slice_get seen x)

-- the arrival of a packet, by its number and its line: a filter, or the redirection table, named
-- the queue at which it arrived
abbrev pub arrival_via : ℕ → ℕ → Via → Arrival
arrival_via x queue Filter = record { id = x; queue = queue; filter = Some queue; entry = None }
arrival_via x queue Reta = record { id = x; queue = queue; filter = None; entry = Some queue }
arrival_via x queue Unhashed = record { id = x; queue = queue; filter = None; entry = None }

-- the arrivals of the packets from this number on
abbrev pub arrivals_from : ℕ → List Seen → List Arrival
arrivals_from x [] = []
arrivals_from x (s ∷ rest) =
    arrival_via x s.packet.queue s.packet.via ∷ arrivals_from (x + 1) rest

-- a choice with its packet
abbrev pub with_packet : ℕ → Choice → Chosen
with_packet x choice = record { id = x; choice = choice }

-- the choice for a packet that arrived at this queue
abbrev pub queue_choice : List Seen → ℕ → Arrival → Option Chosen
queue_choice seen queue a =
    if a.queue == queue then option_map (with_packet a.id) (shown_choice seen a.id) else None

-- the drop of a packet, by the result of its put
abbrev pub put_drop : ℕ → Put → Option LaneDrop
put_drop x (At position) = None
put_drop x (Dropped number accepted pulled cause) =
    Some (record { id = x; accepted = accepted; pulled = pulled; cause = cause })

-- the drop of a packet
abbrev pub shown_drop : List Seen → ℕ → Option LaneDrop
shown_drop seen x = option_and_then (put_drop x) (shown_put seen x)

-- a reply, by its line
abbrev pub line_sent : ℕ → SeenReply → Sent
line_sent x r = record { id = x; rxq = r.rxq; cpu = r.cpu }

-- the reply to a packet
abbrev pub shown_sent : List Seen → ℕ → Option Sent
shown_sent seen x = option_map (line_sent x) (shown_reply seen x)

-- a choice with this flow number as its class
abbrev pub with_class : ℕ → Choice → Choice
with_class flow c = record c { class = Some flow }

-- the transmit queue choice for the reply to a packet, with this flow number as its class
abbrev pub choice_with : List Seen → ℕ → ℕ → Option Chosen
choice_with seen flow x =
    option_map (λ c. with_packet x (with_class flow c))
    (option_and_then (λ r. r.choice) (shown_reply seen x))

-- the transmit queue choice for a reply: its class is the flow number of the packet
abbrev pub shown_tx_choice : List Seen → List Packet → Sent → Option Chosen
shown_tx_choice seen packets s =
    option_map (λ c. with_packet s.id (with_class (packet_at packets s.id).flow_number c))
    (option_and_then (λ r. r.choice) (shown_reply seen s.id))

-- the write of an application
abbrev pub own_write : ℕ → AppWrite → Option SockWrite
own_write app w = if w.app == app then Some w.write else None

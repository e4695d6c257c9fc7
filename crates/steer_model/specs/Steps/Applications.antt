-- The steps of a processor, of a socket and of an application (kernel scaling chapter, sections
-- RFS and XPS): what each does where it is enabled, and else the first reason for which it is idle.
use Rattle.std.specs.Prelude.{ℕ, ◌+◌, ◌%◌, nat_lt, List, [], ◌∷◌, ◌++◌, Option, Some, None, length}
use Rattle.std.specs.Prelude.{slice_get, slice_index, slice_index_or, slice_set, unwrap_or}
use Rattle.std.specs.Prelude.{if◌then◌else◌}
use Rattle.steer_base.specs.declared.command.Answer.TheVariants as says
use Rattle.steer_base.specs.declared.cpu_mask.CpuMask.{CpuMask}
use Rattle.steer_base.specs.declared.idle.Idle.TheVariants as idle
use Rattle.hop_model.specs.declared.event.HopEvent.{HopEvent}
use Rattle.hop_model.specs.declared.event.HopEvent.TheVariants as event
use Rattle.hop_model.specs.Hop.{HopState, choices_of, out_at, placed_of, taken_of}
use Rattle.hop_model.specs.Events.{run}
use Rattle.hop_model.specs.Reads.{to_deliver}
use Rattle.sock_flow_table.specs.Sockets.{noted as with_note}
use Rattle.xps_map.specs.Maps.{picked}
use Rattle.history.specs.Lists.{arrival_of, list_at}
use Rattle.history.specs.declared.sent.Sent.{Sent}
use Rattle.history.specs.declared.sock_write.SockWrite.{SockWrite}
use Rattle.steer_model.specs.State.Machine.{Machine, last_chosen}
use Rattle.steer_model.specs.Steps.Outcomes.{StepOutcome, by_rx, by_tx, idle_step}
use Rattle.steer_model.specs.State.Setup.{app_for, flow_hash, flow_number_of, packet_hash}

-- ---- a processor

-- the packet that a processor delivers next
abbrev pub in_lane : HopState → ℕ → ℕ
in_lane s c = unwrap_or (to_deliver s.bare c) 0

-- A processor delivers the packet in hand to the inbox of its application.
abbrev pub cpu_delivers : Machine → ℕ → StepOutcome
cpu_delivers m c = by_rx m (event.Deliver c (app_for m.setup (in_lane m.rx c)))

-- ---- a socket

-- the machine after an application went through the receive gate and out again, as a guest after
-- the queues
abbrev pub visited : Machine → ℕ → Machine
visited m a =
    let guest = length m.setup.homes + a in
    record m { rx = run (event.Enter guest ∷ event.Leave guest ∷ []) m.rx }

-- the processor on which an application runs
abbrev pub stand_of : Machine → ℕ → ℕ
stand_of m a = slice_index m.settings.stands a

-- the write of an application for a hash
abbrev pub write_of : Machine → ℕ → ℕ → SockWrite
write_of m a hash = record { entry = hash % length m.socket; cpu = stand_of m a }

-- the machine after an application wrote its processor to the entry of a hash
abbrev pub wrote : Machine → ℕ → ℕ → Machine
wrote m a hash =
    record m {
      socket = with_note m.socket hash (stand_of m a);
      writes = slice_set m.writes a (list_at m.writes a ++ write_of m a hash ∷ []);
    }

-- the recording of an application's processor for a hash
abbrev pub record_hash : Machine → ℕ → StepOutcome
record_hash m hash =
    if nat_lt 0 (length m.socket)
    then (wrote (visited m (hash % m.setup.apps)) (hash % m.setup.apps) hash, says.Done)
    else idle_step m idle.NoTable

-- the recording of an application's processor for the hash of a flow, if there is one
abbrev pub record_by : Machine → Option (Option ℕ) → StepOutcome
record_by m None = idle_step m idle.NoFlow
record_by m (Some None) = idle_step m idle.NoHash
record_by m (Some (Some hash)) = record_hash m hash

-- The socket of a flow records the processor of its application.
abbrev pub record_flow : Machine → ℕ → StepOutcome
record_flow m flow = record_by m (flow_hash m.setup flow)

-- ---- an application

-- the replies that an application began
abbrev pub sent_of : Machine → ℕ → List Sent
sent_of m a = list_at m.sent a

-- the next packet of an inbox to reply to, if there is one
abbrev pub next_in : Machine → ℕ → Option ℕ
next_in m a = slice_get (out_at m.rx.bare a) (length (sent_of m a))

-- the reply to a packet: its receive queue, and the processor of the application now
abbrev pub reply_to : Machine → ℕ → ℕ → Sent
reply_to m a x =
    record { id = x; rxq = (arrival_of m.arrivals x).queue; cpu = stand_of m a }

-- the machine after an application began a reply to a packet
abbrev pub sends : Machine → ℕ → ℕ → Machine
sends m a x =
    record m {
      tx = run (event.Arrive a x ∷ event.Take a ∷ []) m.tx;
      sent = slice_set m.sent a (sent_of m a ++ reply_to m a x ∷ []);
    }

-- the beginning of a reply to the next packet, if there is one
abbrev pub send_by : Machine → ℕ → Option ℕ → StepOutcome
send_by m a (Some x) = (sends m a x, says.Done)
send_by m a None = idle_step m idle.InboxDone

-- An application takes the next packet of its inbox in hand, to reply to it.
abbrev pub send : Machine → ℕ → StepOutcome
send m a =
    if nat_lt (placed_of m.tx a) (taken_of m.tx a) then idle_step m idle.HandFull else
    send_by m a (next_in m a)

-- the placeholder for a reply that a list does not have
abbrev pub nothing_sent : Sent
nothing_sent = record { id = 0; rxq = 0; cpu = 0 }

-- the reply of an application that is weighed next
abbrev pub in_reply : Machine → ℕ → Sent
in_reply m a = slice_index_or (sent_of m a) (length (choices_of m.tx a)) nothing_sent

-- the transmit queue that the maps pick for a reply
abbrev pub pick_for : Machine → Sent → ℕ
pick_for m r = picked m.settings.maps r.rxq r.cpu (packet_hash m.setup r.id)

-- the set of all lanes, since all transmit queues are online
abbrev pub everyone : CpuMask
everyone = record { 0 = 4294967295 }

-- the event that weighs a reply, with its flow number as class and the pick as want and as desired
-- queue
abbrev pub sending : Machine → ℕ → Sent → HopEvent
sending m a r =
    event.Weigh a (Some (flow_number_of m.setup r.id)) (Some (pick_for m r)) (pick_for m r) everyone

-- The reply in hand gets a transmit queue by the migration rule.
abbrev pub tweigh : Machine → ℕ → StepOutcome
tweigh m a = by_tx m (sending m a (in_reply m a))

-- The reply in hand is put to its transmit queue.
abbrev pub tput : Machine → ℕ → StepOutcome
tput m a = by_tx m (event.Put a (packet_hash m.setup (last_chosen m.tx a).id))

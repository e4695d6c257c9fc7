-- The steps of the wire and of the pollers (kernel scaling chapter, sections RSS, RPS, RFS and
-- accelerated RFS): what each does where it is enabled, and else the first reason for which it is
-- idle.
use Rattle.std.specs.Prelude.{ℕ, not, nat_lt, List, [], ◌∷◌, ◌++◌, Option, Some, None, length}
use Rattle.std.specs.Prelude.{slice_set}
use Rattle.std.specs.Prelude.{if◌then◌else◌}
use Rattle.std.specs.Option.{option_map}
use Rattle.steer_base.specs.Arrivals.{Route, route}
use Rattle.steer_base.specs.Choices.{desired_cpu}
use Rattle.steer_base.specs.Filters.{filter_written}
use Rattle.steer_base.specs.declared.choice.Choice.{Choice}
use Rattle.steer_base.specs.declared.command.Answer.TheVariants as says
use Rattle.steer_base.specs.declared.filter.Filter.{Filter}
use Rattle.steer_base.specs.declared.idle.Idle.TheVariants as idle
use Rattle.steer_base.specs.declared.put.Put.TheVariants as went
use Rattle.hop_model.specs.declared.event.HopEvent.{HopEvent}
use Rattle.hop_model.specs.declared.event.HopEvent.TheVariants as event
use Rattle.hop_model.specs.declared.event.HopAnswer.{HopAnswer}
use Rattle.hop_model.specs.declared.event.HopAnswer.TheVariants as answer
use Rattle.hop_model.specs.Hop.{inside_of}
use Rattle.hop_model.specs.Events.{happens}
use Rattle.hop_model.specs.Reads.{to_weigh}
use Rattle.sock_flow_table.specs.Sockets.{wanted}
use Rattle.accel_filter.specs.Table.{filter_of, steered}
use Rattle.rss_table.specs.Redirection.{queue_of}
use Rattle.history.specs.declared.arrival.Arrival.{Arrival}
use Rattle.steer_model.specs.State.Machine.{Machine, note_of, last_chosen}
use Rattle.steer_model.specs.State.Notes.{asking, is_asking, is_nothing}
use Rattle.steer_model.specs.Steps.Outcomes.{StepOutcome, by_rx, idle_step, told}
use Rattle.steer_model.specs.State.Settings.{class_at, plain_lane}
use Rattle.steer_model.specs.State.Setup.{packet_hash}
use Rattle.steer_model.specs.declared.note.Note.{Note}
use Rattle.steer_model.specs.declared.note.Note.TheVariants as note

-- ---- the wire

-- the queue of the filter that a packet with this hash finds
abbrev pub filter_seen : List (Option Filter) → Option ℕ → Option ℕ
filter_seen filters None = None
filter_seen filters (Some hash) = option_map (λ filter. filter.queue) (filter_of filters hash)

-- the queue of an arriving packet with this hash, and the value that leads to it
abbrev pub route_by : Machine → Option ℕ → Route
route_by m hash = route hash (filter_seen m.filters hash) (queue_of m.settings.reta hash)

-- the arrival of a packet by a route
abbrev pub arrival_by : ℕ → Route → Arrival
arrival_by x r = record { id = x; queue = r.queue; filter = r.filter; entry = r.entry }

-- the machine after an arrival
abbrev pub arrives : Machine → Arrival → Machine
arrives m a =
    record m {
      rx = (happens m.rx (event.Arrive a.queue a.id)).0;
      arrivals = m.arrivals ++ a ∷ [];
    }

-- The next packet of the capture enters the ring of its queue.
abbrev pub arrive : Machine → StepOutcome
arrive m =
    let next = length m.arrivals in
    if nat_lt next (length m.setup.packets)
    then (arrives m (arrival_by next (route_by m (packet_hash m.setup next))), says.Done)
    else idle_step m idle.NothingLeft

-- ---- a poller

-- the machine with another note for a poller
abbrev pub with_note : Machine → ℕ → Note → Machine
with_note m q n = record m { notes = slice_set m.notes q n }

-- A poller takes the first packet of its ring; a poller that asks for a filter has its hand full.
abbrev pub poller_takes : Machine → ℕ → StepOutcome
poller_takes m q = if is_asking (note_of m q) then idle_step m idle.HandFull else by_rx m
    (event.Take q)

-- the processor that a packet with this class and hash finds in the socket flow table
abbrev pub socket_seen : List (Option ℕ) → Option ℕ → Option ℕ → Option ℕ
socket_seen socket (Some class) (Some hash) = wanted socket hash
socket_seen socket (Some class) None = None
socket_seen socket None hash = None

-- the processor that a packet at a receive queue finds in the socket flow table
abbrev pub seen_by : Machine → ℕ → ℕ → Option ℕ
seen_by m q x = socket_seen m.socket (class_at m.setup m.settings q x) (packet_hash m.setup x)

-- the look of a poller for the packet that it weighs next, if there is one
abbrev pub look_by : Machine → ℕ → Option ℕ → StepOutcome
look_by m q (Some x) = (with_note m q (note.Looked (seen_by m q x)), says.Done)
look_by m q None = idle_step m idle.WrongStage

-- A poller looks up the packet in hand in the socket flow table, and keeps what it sees.
abbrev pub look : Machine → ℕ → StepOutcome
look m q =
    if not (inside_of m.rx q) then idle_step m idle.NotInside else
    if is_nothing (note_of m q) then look_by m q (to_weigh m.rx q) else
    idle_step m idle.WrongStage

-- the event that weighs a packet at a receive queue, with what was seen in the socket flow table
abbrev pub weighing : Machine → ℕ → ℕ → Option ℕ → HopEvent
weighing m q x want =
    event.Weigh q (class_at m.setup m.settings q x) want
    (desired_cpu (class_at m.setup m.settings q x) want m.settings.online
    (plain_lane m.setup m.settings q x))
    m.settings.online

-- the weighing of a poller by its note
abbrev pub weigh_by : Machine → ℕ → Note → Option ℕ → StepOutcome
weigh_by m q (note.Looked want) (Some x) = by_rx (with_note m q note.Nothing) (weighing m q x want)
weigh_by m q (note.Looked want) None = idle_step m idle.WrongStage
weigh_by m q note.Nothing in_hand = idle_step m idle.WrongStage
weigh_by m q (note.Asking filter) in_hand = idle_step m idle.WrongStage

-- The packet in hand gets a processor by the migration rule, with what was seen.
abbrev pub poller_weighs : Machine → ℕ → StepOutcome
poller_weighs m q =
    if not (inside_of m.rx q) then idle_step m idle.NotInside else
    weigh_by m q (note_of m q) (to_weigh m.rx q)

-- the filter that is asked for after a packet was accepted at a position by this choice, if there
-- are filters
abbrev pub filter_for : List ℕ → ℕ → Choice → ℕ → Option Filter
filter_for homes filters c position =
    if nat_lt 0 filters then filter_written homes c.why c.lane position else None

-- the position at which a put was accepted, if it was
abbrev pub put_position : HopAnswer → Option ℕ
put_position (answer.Went (went.At position)) = Some position
put_position _ = None

-- what a poller does after its put: it asks for a filter if one is due
abbrev pub poller_after_put : Machine → ℕ → Option ℕ → HopAnswer → StepOutcome
poller_after_put m q (Some position) a = (
  with_note m q
      (asking (filter_for m.setup.homes (length m.filters) (last_chosen m.rx q).choice position)),
  told a,
)
poller_after_put m q None a = (m, told a)

-- the event that puts the packet in the hand of a poller
abbrev pub putting : Machine → ℕ → HopEvent
putting m q = event.Put q (packet_hash m.setup (last_chosen m.rx q).id)

-- The packet in hand is put to its processor, and a filter is asked for if one is due.
abbrev pub poller_puts : Machine → ℕ → StepOutcome
poller_puts m q =
    poller_after_put (by_rx m (putting m q)).0 q (put_position (happens m.rx (putting m q)).1)
    (happens m.rx (putting m q)).1

-- the filters with one written for a hash, if there is a hash
abbrev pub with_filter : List (Option Filter) → Option ℕ → Filter → List (Option Filter)
with_filter filters None filter = filters
with_filter filters (Some hash) filter = steered filters hash filter

-- the writing of a filter by the note of a poller
abbrev pub ask_by : Machine → ℕ → Note → StepOutcome
ask_by m q (note.Asking filter) = (
  record (with_note m q note.Nothing) {
    filters = with_filter m.filters (packet_hash m.setup (last_chosen m.rx q).id) filter;
  },
  says.Done,
)
ask_by m q note.Nothing = idle_step m idle.WrongStage
ask_by m q (note.Looked want) = idle_step m idle.WrongStage

-- The filter that a poller asks for is written.
abbrev pub ask : Machine → ℕ → StepOutcome
ask m q =
    if not (inside_of m.rx q) then idle_step m idle.NotInside else ask_by m q (note_of m q)

-- A poller leaves the gate, but not between its look and the end of its put or its filter.
abbrev pub poller_leaves : Machine → ℕ → StepOutcome
poller_leaves m q =
    if not (inside_of m.rx q) then idle_step m idle.NotInside else
    if is_nothing (note_of m q) then by_rx m (event.Leave q) else
    idle_step m idle.MidPacket

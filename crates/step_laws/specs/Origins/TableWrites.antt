-- The entries of the socket flow table and the filters in force: each is what the last event that
-- wrote it left there (kernel scaling chapter, sections RFS and accelerated RFS; the expiry of
-- filters is this project's own).
use Rattle.std.specs.Prelude.{ℕ, ◌%◌, ◌≡◌, List, [], ◌∷◌, Option, Some, None}
use Rattle.std.specs.Prelude.{slice_index_or, if◌then◌else◌}
use Rattle.std.specs.List.{cons_option}
use Rattle.steer_base.specs.Entries.{is_class, last_or}
use Rattle.steer_base.specs.HashTables.{place_in_rows}
use Rattle.steer_base.specs.declared.command.Command.{Command}
use Rattle.steer_base.specs.declared.command.Command.TheVariants as give
use Rattle.steer_base.specs.declared.filter.Filter.{Filter}
use Rattle.steer_base.specs.declared.packet.Packet.{Packet}
use Rattle.steer_base.specs.declared.step.Step.{Step}
use Rattle.steer_base.specs.declared.step.Step.TheVariants as act
use Rattle.hop_model.specs.Hop.{inside_of}
use Rattle.plan_reader.specs.declared.plan.Plan.{Plan}
use Rattle.steer_model.specs.Steps.Applications.{stand_of}
use Rattle.steer_model.specs.Steps.Commands.{answer_to, is_done, may_go}
use Rattle.steer_model.specs.State.Machine.{Machine, last_chosen, note_of}
use Rattle.steer_model.specs.State.Setup.{flow_hash, packet_hash}
use Rattle.steer_model.specs.State.Start.{new_machine}
use Rattle.steer_model.specs.Steps.SingleSteps.{simple}
use Rattle.steer_model.specs.Steps.CompoundSteps.{after}
use Rattle.steer_model.specs.declared.note.Note.{Note}
use Rattle.steer_model.specs.declared.note.Note.TheVariants as note

-- the machine after these events and commands, one by one
abbrev pub after_events : List Step → Machine → Machine
after_events [] m = m
after_events (e ∷ es) m = after_events es (simple m e).0

-- a value, if a hash has this place among the rows of a table
abbrev pub if_at : {Row X : Type 0} → ℕ → List Row → Option ℕ → X → Option X
if_at place rows hash x = if is_class place (place_in_rows rows hash) then Some x else None

-- ---- the socket flow table

-- the entry of the socket flow table at a place: the processor noted there, and none beyond the end
abbrev pub socket_at : ℕ → Machine → Option ℕ
socket_at place m = slice_index_or m.socket place None

-- what an application writes to the entry at a place when it records its processor for the hash of
-- a flow
abbrev pub recorded_at : ℕ → Machine → Option (Option ℕ) → Option (Option ℕ)
recorded_at place m None = None
recorded_at place m (Some None) = None
recorded_at place m (Some (Some hash)) =
    if_at place m.socket (Some hash) (Some (stand_of m (hash % m.setup.apps)))

-- what another size writes to the entry at a place: it clears the whole table
abbrev pub cleared_by : Command → Option (Option ℕ)
cleared_by (give.Sock size) = Some None
cleared_by _ = None

-- what an event writes to the entry of the socket flow table at a place
abbrev pub socket_write : ℕ → Machine → Step → Option (Option ℕ)
socket_write place m (act.Record flow) = recorded_at place m (flow_hash m.setup flow)
socket_write place m (act.Give c) = if is_done (answer_to m c) then cleared_by c else None
socket_write place m _ = None

-- ---- the filters

-- the filter at a place, and none beyond the end
abbrev pub filter_at : ℕ → Machine → Option Filter
filter_at place m = slice_index_or m.filters place None

-- what a poller that asks for a filter writes to a place, by the hash of the packet that it put
-- last
abbrev pub asked_at : ℕ → Machine → ℕ → Note → Option (Option Filter)
asked_at place m q (note.Asking filter) =
    if_at place m.filters (packet_hash m.setup (last_chosen m.rx q).id) (Some filter)
asked_at place m q note.Nothing = None
asked_at place m q (note.Looked want) = None

-- what an expiry writes to the filter at a place: it clears one that may expire
abbrev pub expired_at : ℕ → Machine → Command → Option (Option Filter)
expired_at place m give.Expire = if may_go m (filter_at place m) then Some None else None
expired_at place m _ = None

-- what an event writes to the filter at a place
abbrev pub filter_write : ℕ → Machine → Step → Option (Option Filter)
filter_write place m (act.Ask q) =
    if inside_of m.rx q then asked_at place m q (note_of m q) else None
filter_write place m (act.Give c) = if is_done (answer_to m c) then expired_at place m c else None
filter_write place m _ = None

-- ---- the laws

-- what these events write to one place, each in the machine that it finds, oldest first
abbrev pub writes_of : {X : Type 0} → (Machine → Step → Option X) → List Step → Machine → List X
writes_of write [] m = []
writes_of write (e ∷ es) m = cons_option (write m e) (writes_of write es (simple m e).0)

-- The machine that a plan starts has no entry and no filter set.
abbrev pub TablesStartUnset : Type 0
TablesStartUnset =
    (plan : Plan) (packets : List Packet) (cut : Option ℕ) (place : ℕ)
    → (socket_at place (new_machine plan packets cut) ≡ None)
    × (filter_at place (new_machine plan packets cut) ≡ None)

-- Any steps are some single events and commands, one after the other.
abbrev pub StepsAreEvents : Type 0
StepsAreEvents =
    (ss : List Step) (m : Machine) → (es : List Step) × (after ss m ≡ after_events es m)

-- After any events the socket entry at a place is what was written there last, otherwise what it
-- was before.
abbrev pub EntriesAreLastWrites : Type 0
EntriesAreLastWrites =
    (es : List Step) (m : Machine) (place : ℕ)
    → socket_at place (after_events es m)
    ≡ last_or (socket_at place m) (writes_of (socket_write place) es m)

-- After any events the filter at a place is what was written there last, otherwise what it was
-- before.
abbrev pub FiltersAreLastWrites : Type 0
FiltersAreLastWrites =
    (es : List Step) (m : Machine) (place : ℕ)
    → filter_at place (after_events es m)
    ≡ last_or (filter_at place m) (writes_of (filter_write place) es m)

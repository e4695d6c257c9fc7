-- Commands: when one is refused, what answers it, and what it changes.
use Rattle.std.specs.Prelude.{ℕ, Bool, true, false, ◌==◌, [], ◌∷◌, ◌++◌, Option, Some, None}
use Rattle.std.specs.Prelude.{Result, Ok, Err, length, map, filter, slice_index, if◌then◌else◌}
use Rattle.steer_base.specs.Commands.{is_affected, refusal}
use Rattle.steer_base.specs.Counters.{rounded_up}
use Rattle.steer_base.specs.Filters.{may_expire}
use Rattle.steer_base.specs.declared.command.Answer.{Answer}
use Rattle.steer_base.specs.declared.command.Answer.TheVariants as says
use Rattle.steer_base.specs.declared.command.Busy.{Busy}
use Rattle.steer_base.specs.declared.command.Busy.TheVariants as busy
use Rattle.steer_base.specs.declared.command.Command.{Command}
use Rattle.steer_base.specs.declared.command.Command.TheVariants as give
use Rattle.steer_base.specs.declared.command.Refused.{Refused}
use Rattle.steer_base.specs.declared.command.Refused.TheVariants as refused
use Rattle.steer_base.specs.declared.filter.Filter.{Filter}
use Rattle.steer_base.specs.declared.idle.Idle.TheVariants as idle
use Rattle.hop_model.specs.declared.event.HopEvent.TheVariants as event
use Rattle.hop_model.specs.Hop.{HopState, head_at}
use Rattle.hop_model.specs.Events.{run}
use Rattle.hop_model.specs.Emptied.{emptied_of}
use Rattle.sock_flow_table.specs.Sockets as sockets
use Rattle.steer_model.specs.State.Machine.{Machine}
use Rattle.steer_model.specs.Steps.Outcomes.{StepOutcome}
use Rattle.steer_model.specs.State.Settings.{changed}
use Rattle.steer_model.specs.State.Setup.{Setup}

-- ---- filters that may go

-- whether a filter is set and may expire, by the head of its processor and the flow count of its
-- queue
abbrev pub may_go : Machine → Option Filter → Bool
may_go m None = false
may_go m (Some filter) =
    may_expire filter (head_at m.rx.fixed.start m.rx.bare filter.cpu)
    (slice_index m.settings.counts filter.queue)

-- a filter after an expiry
abbrev pub kept_filter : Machine → Option Filter → Option Filter
kept_filter m filter = if may_go m filter then None else filter

-- how many filters an expiry clears
abbrev pub gone : Machine → ℕ
gone m = length (filter (may_go m) m.filters)

-- ---- the answer

-- the answer to a command that is refused
abbrev pub refused_answer : Refused → Answer
refused_answer (refused.CpuInUse user) = says.CpuInUse user
refused_answer refused.CpuOffline = says.CpuOffline
refused_answer refused.AlreadyOnline = says.Idle idle.AlreadyOnline

-- whether a lane must be empty for a command
abbrev pub affects : Setup → Command → ℕ → Bool
affects p c lane = is_affected c p.homes p.cpus p.txs lane

-- the answer done if all lanes asked for are empty, otherwise busy with the first that is not
abbrev pub emptied_answer : Result (Unit {0}) Busy → Answer
emptied_answer (Ok nothing) = says.Done
emptied_answer (Err why) = says.Busy why

-- the answer busy if somebody is inside the gate or a lane is not empty, otherwise done
abbrev pub gate_answer : HopState → Result (Unit {0}) Busy → Answer
gate_answer s empty =
    if s.bare.inside == 0 then emptied_answer empty else says.Busy (busy.Inside s.bare.inside)

-- the answer to a gated command at its hop, for which these lanes must be empty
abbrev pub gated : HopState → (ℕ → Bool) → Answer
gated s wanted = gate_answer s (emptied_of s wanted)

-- the answer to a command that is not refused
abbrev pub by_gate : Machine → Command → Answer
by_gate m (give.Mask q mask) = gated m.rx (affects m.setup (give.Mask q mask))
by_gate m (give.Flows q count) = gated m.rx (affects m.setup (give.Flows q count))
by_gate m (give.Sock size) = gated m.rx (affects m.setup (give.Sock size))
by_gate m (give.Offline cpu) = gated m.rx (affects m.setup (give.Offline cpu))
by_gate m (give.Online cpu) = gated m.rx (affects m.setup (give.Online cpu))
by_gate m (give.XCpus tx mask) = gated m.tx (affects m.setup (give.XCpus tx mask))
by_gate m (give.XQueues tx queues) = gated m.tx (affects m.setup (give.XQueues tx queues))
by_gate m (give.Reta place q) = says.Done
by_gate m (give.Stand app cpu) = says.Done
by_gate m give.Expire = says.Expired (gone m)

-- the answer to a command: that it is refused, otherwise this one
abbrev pub refused_or : Option Refused → Answer → Answer
refused_or None a = a
refused_or (Some why) a = refused_answer why

-- The answer to a command: why it is refused, otherwise what its gate says.
abbrev pub answer_to : Machine → Command → Answer
answer_to m c =
    refused_or (refusal m.settings.online c m.setup.homes m.settings.stands) (by_gate m c)

-- whether a command with this answer was done
abbrev pub is_done : Answer → Bool
is_done says.Done = true
is_done (says.Expired n) = true
is_done (says.Idle why) = false
is_done (says.Busy why) = false
is_done (says.CpuInUse user) = false
is_done says.CpuOffline = false

-- ---- what it changes

-- the machine with the settings that a command leaves
abbrev pub with_settings : Machine → Command → Machine
with_settings m c = record m { settings = changed m.settings c }

-- The machine after a command was done: its setting changed; flow counts clear the entries of their
-- queue behind a closed gate, the socket size clears the socket flow table, and an expiry clears
-- the filters that may expire.
abbrev pub set_by : Machine → Command → Machine
set_by m (give.Flows q count) =
    record (with_settings m (give.Flows q count)) {
      rx = run (event.Close ∷ event.Resize q count ∷ event.Reopen ∷ []) m.rx;
    }
set_by m (give.Sock size) =
    record (with_settings m (give.Sock size)) { socket = sockets.unset (rounded_up size) }
set_by m give.Expire = record m { filters = map (kept_filter m) m.filters }
set_by m (give.Mask q mask) = with_settings m (give.Mask q mask)
set_by m (give.Offline cpu) = with_settings m (give.Offline cpu)
set_by m (give.Online cpu) = with_settings m (give.Online cpu)
set_by m (give.XCpus tx mask) = with_settings m (give.XCpus tx mask)
set_by m (give.XQueues tx queues) = with_settings m (give.XQueues tx queues)
set_by m (give.Reta place q) = with_settings m (give.Reta place q)
set_by m (give.Stand app cpu) = with_settings m (give.Stand app cpu)

-- the machine with a command and its answer added to the list
abbrev pub listed : Machine → Command → Answer → Machine
listed m c a = record m { commands = m.commands ++ record { command = c; answer = a } ∷ [] }

-- A command is listed with its answer, and changes nothing else unless it is done.
abbrev pub given : Machine → Command → StepOutcome
given m c =
    (listed (if is_done (answer_to m c) then set_by m c else m) c (answer_to m c), answer_to m c)

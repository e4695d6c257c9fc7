-- The machine in memory: its parts, and the room that was reserved for its lists.
use Rattle.std.specs.Prelude.{ℕ, ◌≡◌, List, Option, length}
use Rattle.steer_base.specs.Journals.{Journal, Journals}
use Rattle.steer_base.specs.declared.filter.Filter.{Filter}
use Rattle.hop_model.specs.Hop.{HopState}
use Rattle.history.specs.declared.arrival.Arrival.{Arrival}
use Rattle.history.specs.declared.commanded.Commanded.{Commanded}
use Rattle.history.specs.declared.sent.Sent.{Sent}
use Rattle.history.specs.declared.sock_write.SockWrite.{SockWrite}
use Rattle.steer_model.specs.State.Machine.{Machine}
use Rattle.steer_model.specs.State.Settings.{Settings}
use Rattle.steer_model.specs.State.Setup.{Setup}
use Rattle.steer_model.specs.declared.note.Note.{Note}
use Rattle.steer_invariant.specs.Invariant.{Invariant}

-- The number of writes of each application, and of commands, for which memory is reserved.
pub record Rooms : Type 0 where
  pub writes : ℕ
  pub commands : ℕ

-- A machine in memory: the machine of the definition, and the room of its lists.
pub record Running : Type 0 where
  pub machine : Machine
  pub rooms : Rooms

-- The values of the parts of a machine in memory.
pub record Parts : Type 0 where
  pub given : Setup
  pub settings : Settings
  pub socket : List (Option ℕ)
  pub filters : List (Option Filter)
  pub notes : List Note
  pub rx : HopState
  pub tx : HopState
  pub arrivals : Journal Arrival
  pub sent : Journals Sent
  pub writes : Journals SockWrite
  pub commands : Journal Commanded

-- The parts of a machine in memory, from the value of each.
abbrev pub running_parts : Setup → Settings → List (Option ℕ) → List (Option Filter) → List Note
    → HopState → HopState → Journal Arrival → Journals Sent → Journals SockWrite
    → Journal Commanded → Parts
running_parts given settings socket filters notes rx tx arrivals sent writes commands =
    record {
      given = given;
      settings = settings;
      socket = socket;
      filters = filters;
      notes = notes;
      rx = rx;
      tx = tx;
      arrivals = arrivals;
      sent = sent;
      writes = writes;
      commands = commands;
    }

-- The machine of the definition that parts in memory are.
abbrev pub machine_of : Parts → Machine
machine_of p =
    record {
      setup = p.given;
      settings = p.settings;
      socket = p.socket;
      filters = p.filters;
      notes = p.notes;
      rx = p.rx;
      tx = p.tx;
      arrivals = p.arrivals.items;
      sent = p.sent.lists;
      writes = p.writes.lists;
      commands = p.commands.items;
    }

-- The machine and the room of parts in memory.
abbrev pub running : Parts → Running
running p =
    record {
      machine = machine_of p;
      rooms = record { writes = p.writes.room; commands = p.commands.room };
    }

-- The lists of arrivals and of replies have room for each packet.
pub record HasRoom (packets arrivals sent : ℕ) : Type 0 where
  pub arrivals_room : arrivals ≡ packets
  pub sent_room : sent ≡ packets

-- The invariant of the parts of a machine in memory, between steps.
abbrev pub IsRunning : Parts → Type 0
IsRunning p =
    Invariant (machine_of p) × HasRoom (length p.given.packets) p.arrivals.room p.sent.room

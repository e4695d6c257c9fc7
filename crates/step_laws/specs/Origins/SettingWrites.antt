-- A value in force is that of the last done command for it, else the one before all commands.
use Rattle.std.specs.Prelude.{ℕ, ◌<◌, ◌≡◌, Bool, true, false, ◌==◌, List, Option, Some, None}
use Rattle.std.specs.Prelude.{length}
use Rattle.std.specs.Prelude.{slice_index, slice_index_or, if◌then◌else◌}
use Rattle.std.specs.List.{All, filter_map}
use Rattle.steer_base.specs.Counters.{rounded_up}
use Rattle.steer_base.specs.Entries.{last_or}
use Rattle.steer_base.specs.Sets.{has}
use Rattle.steer_base.specs.declared.command.Command.{Command}
use Rattle.steer_base.specs.declared.command.Command.TheVariants as give
use Rattle.steer_base.specs.declared.cpu_mask.CpuMask.{CpuMask}
use Rattle.history.specs.declared.commanded.Commanded.{Commanded}
use Rattle.xps_map.specs.Maps.{no_cpus}
use Rattle.steer_model.specs.Steps.Commands.{is_done}
use Rattle.steer_model.specs.Good.Inputs.{settings_after}
use Rattle.steer_model.specs.State.Settings.{Settings, mask_of}

-- ---- what a command writes to one thing

-- what a command writes to the processors of a receive queue
abbrev pub mask_for : ℕ → Command → Option CpuMask
mask_for q (give.Mask r mask) = if q == r then Some mask else None
mask_for q _ = None

-- what a command writes to the flow count of a receive queue
abbrev pub count_for : ℕ → Command → Option ℕ
count_for q (give.Flows r count) = if q == r then Some (rounded_up count) else None
count_for q _ = None

-- what a command writes to the socket flow table's size
abbrev pub sock_for : Command → Option ℕ
sock_for (give.Sock size) = Some (rounded_up size)
sock_for _ = None

-- what a command writes to whether a processor is online
abbrev pub online_for : ℕ → Command → Option Bool
online_for cpu (give.Offline other) = if cpu == other then Some false else None
online_for cpu (give.Online other) = if cpu == other then Some true else None
online_for cpu _ = None

-- what a command writes to the processors of a transmit queue
abbrev pub tx_cpus_for : ℕ → Command → Option CpuMask
tx_cpus_for tx (give.XCpus other mask) = if tx == other then Some mask else None
tx_cpus_for tx _ = None

-- what a command writes to the receive queues of a transmit queue
abbrev pub tx_queues_for : ℕ → Command → Option ℕ
tx_queues_for tx (give.XQueues other queues) = if tx == other then Some queues else None
tx_queues_for tx _ = None

-- what a command writes to an entry of the redirection table
abbrev pub entry_for : ℕ → Command → Option ℕ
entry_for place (give.Reta other q) = if place == other then Some q else None
entry_for place _ = None

-- what a command writes to an application's processor
abbrev pub stand_for : ℕ → Command → Option ℕ
stand_for app (give.Stand other cpu) = if app == other then Some cpu else None
stand_for app _ = None

-- what a listed command writes, if it was done
abbrev pub if_done : {X : Type 0} → (Command → Option X) → Commanded → Option X
if_done value c = if is_done c.answer then value c.command else None

-- the last value that the done ones of these commands write, otherwise the first value
abbrev pub last_write : {X : Type 0} → (Command → Option X) → X → List Commanded → X
last_write value first cs = last_or first (filter_map (if_done value) cs)

-- ---- the law

-- A processor that a command takes offline or brings online is one of 32.
abbrev pub NamesCpu : Command → Type 0
NamesCpu (give.Offline cpu) = cpu < 32
NamesCpu (give.Online cpu) = cpu < 32
NamesCpu _ = Unit {0}

-- Each setting after these commands is what the last done command for it wrote, otherwise what it
-- was before.
pub record AreLastWrites (s : Settings) (cs : List Commanded) : Type 0 where
  pub masks : (q : ℕ) → q < length s.masks
      → mask_of (settings_after s cs) q ≡ last_write (mask_for q) (mask_of s q) cs
  pub counts : (q : ℕ) → q < length s.counts
      → slice_index (settings_after s cs).counts q
      ≡ last_write (count_for q) (slice_index s.counts q) cs
  pub sock : (settings_after s cs).sock ≡ last_write sock_for s.sock cs
  pub online : (cpu : ℕ) → cpu < 32
      → has (settings_after s cs).online cpu ≡ last_write (online_for cpu) (has s.online cpu) cs
  pub tx_cpus : (tx : ℕ) → tx < length s.maps.cpus
      → slice_index_or (settings_after s cs).maps.cpus tx no_cpus
      ≡ last_write (tx_cpus_for tx) (slice_index_or s.maps.cpus tx no_cpus) cs
  pub tx_queues : (tx : ℕ) → tx < length s.maps.queues
      → slice_index (settings_after s cs).maps.queues tx
      ≡ last_write (tx_queues_for tx) (slice_index s.maps.queues tx) cs
  pub entries : (place : ℕ) → place < length s.reta.entries
      → slice_index (settings_after s cs).reta.entries place
      ≡ last_write (entry_for place) (slice_index s.reta.entries place) cs
  pub stands : (app : ℕ) → app < length s.stands
      → slice_index (settings_after s cs).stands app
      ≡ last_write (stand_for app) (slice_index s.stands app) cs

-- Each setting in force is what the last done command for it wrote, otherwise the one before all
-- commands.
abbrev pub ValuesAreLastWrites : Type 0
ValuesAreLastWrites =
    (s : Settings) (cs : List Commanded) → All (λ c. NamesCpu c.command) cs → AreLastWrites s cs

-- Which lanes a command affects, and when it may not be given.
use Rattle.std.specs.Prelude.{ℕ, Bool, false, List, Option, Some, None, ◌==◌, nat_lt, position}
use Rattle.std.specs.Prelude.{if◌then◌else◌}
use Rattle.std.specs.List.{list_any}
use Rattle.std.specs.Option.{option_map}
use Rattle.steer_base.specs.Sets.{has}
use Rattle.steer_base.specs.declared.command.Command.{Command}
use Rattle.steer_base.specs.declared.command.Command.TheVariants.{Mask, Flows, Sock, Offline}
use Rattle.steer_base.specs.declared.command.Command.TheVariants.{Online, XCpus, XQueues, Reta}
use Rattle.steer_base.specs.declared.command.Command.TheVariants.{Stand, Expire}
use Rattle.steer_base.specs.declared.command.Refused.{Refused}
use Rattle.steer_base.specs.declared.command.Refused.TheVariants.{CpuInUse, CpuOffline}
use Rattle.steer_base.specs.declared.command.Refused.TheVariants.{AlreadyOnline}
use Rattle.steer_base.specs.declared.command.User.{User}
use Rattle.steer_base.specs.declared.command.User.TheVariants.{Queue, App}
use Rattle.steer_base.specs.declared.cpu_mask.CpuMask.{CpuMask}

-- Whether a lane has to be empty for a command: every processor for a mask, flow counts and the
-- socket size, the named one for offline, the homes of all queues for online, every transmit queue
-- for its maps, and none otherwise.
abbrev pub is_affected : Command → List ℕ → (cpus txs lane : ℕ) → Bool
is_affected (Mask queue mask) homes cpus txs lane = nat_lt lane cpus
is_affected (Flows queue count) homes cpus txs lane = nat_lt lane cpus
is_affected (Sock size) homes cpus txs lane = nat_lt lane cpus
is_affected (Offline cpu) homes cpus txs lane = lane == cpu
is_affected (Online cpu) homes cpus txs lane = list_any (λ home. home == lane) homes
is_affected (XCpus tx mask) homes cpus txs lane = nat_lt lane txs
is_affected (XQueues tx queues) homes cpus txs lane = nat_lt lane txs
is_affected (Reta place queue) homes cpus txs lane = false
is_affected (Stand app cpu) homes cpus txs lane = false
is_affected Expire homes cpus txs lane = false

-- a queue where there is one, else an application where there is one
abbrev pub queue_or_app : Option ℕ → Option ℕ → Option User
queue_or_app (Some queue) app = Some (Queue queue)
queue_or_app None (Some app) = Some (App app)
queue_or_app None None = None

-- Who uses a processor: the lowest queue whose home it is, else the lowest application that runs
-- on it.
abbrev pub user_of : List ℕ → List ℕ → ℕ → Option User
user_of homes stands cpu =
    queue_or_app (position (λ home. home == cpu) homes) (position (λ stand. stand == cpu) stands)

-- Why a command may not be given: an offline processor cannot go offline or run an application, one
-- in use cannot go offline, and an online one cannot come online.
abbrev pub refusal : CpuMask → Command → List ℕ → List ℕ → Option Refused
refusal online (Offline cpu) homes stands =
    if has online cpu then option_map (λ user. CpuInUse user) (user_of homes stands cpu)
    else Some CpuOffline
refusal online (Stand app cpu) homes stands = if has online cpu then None else Some CpuOffline
refusal online (Online cpu) homes stands = if has online cpu then Some AlreadyOnline else None
refusal online (Mask queue mask) homes stands = None
refusal online (Flows queue count) homes stands = None
refusal online (Sock size) homes stands = None
refusal online (XCpus tx mask) homes stands = None
refusal online (XQueues tx queues) homes stands = None
refusal online (Reta place queue) homes stands = None
refusal online Expire homes stands = None

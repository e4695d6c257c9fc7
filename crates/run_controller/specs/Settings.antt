-- What the controller knows of the settings, and the change that a command makes by it.
use Rattle.std.specs.Prelude.{◌≡◌, ℕ, ◌+◌, ◌≤◌, List, Option, None, Some, length, replicate}
use Rattle.std.specs.Prelude.{slice_index, slice_set}
use Rattle.steer_base.specs.Counters.{rounded_up}
use Rattle.steer_base.specs.Sets.{with_cpu, without_cpu}
use Rattle.steer_base.specs.declared.command.Command.{Command}
use Rattle.steer_base.specs.declared.command.Command.TheVariants as give
use Rattle.plan_reader.specs.declared.plan.Plan.{Plan}
use Rattle.steer_model.specs.State.Settings.{Settings, changed}
use Rattle.steer_model.specs.State.Setup.{Setup}
use Rattle.steer_model.specs.State.Start.{initial_settings}
use Rattle.run_words.specs.Numbers.{receive_number, transmit_number}
use Rattle.run_words.specs.Values.{cpus_word, flows_word, queues_word, socket_size_word}
use Rattle.run_words.specs.declared.setting.ReceiveSetting.TheVariants as receive
use Rattle.run_words.specs.declared.setting.TransmitSetting.TheVariants as transmit
use Rattle.run_controller.specs.declared.change.Change.{Change}

-- The settings, and for each receive queue how often its flow count was changed.
pub record KnownSettings : Type 0 where
  pub settings : Settings
  pub generations : List ℕ

-- What is known at the start of a plan.
abbrev pub first_known : Plan → KnownSettings
first_known plan =
    record {
      settings = initial_settings plan;
      generations = replicate (length plan.queues) 0;
    }

-- The generations after a command that was done.
abbrev pub generations_after : List ℕ → Command → List ℕ
generations_after gs (give.Flows q count) = slice_set gs q (slice_index gs q + 1)
generations_after gs _ = gs

-- What is known after a command that was done.
abbrev pub known_after : KnownSettings → Command → KnownSettings
known_after k c =
    record {
      settings = changed k.settings c;
      generations = generations_after k.generations c;
    }

-- The settings have the sizes of the setup, and no flow count was changed more often than so many
-- times.
pub record IsKnown (given : Setup) (most : ℕ) (k : KnownSettings) : Type 0 where
  pub masks : length k.settings.masks ≡ length given.homes
  pub counts : length k.settings.counts ≡ length given.homes
  pub maps : k.settings.maps.count ≡ given.txs
  pub reta : k.settings.reta.queues ≡ length given.homes
  pub stands : length k.settings.stands ≡ given.apps
  pub generations : length k.generations ≡ length given.homes
  pub few : (q : ℕ) → slice_index k.generations q ≤ most

-- ---- changes

-- The change of a setting by its number.
abbrev pub to_value : ℕ → ℕ → Option Change
to_value number value = Some (record { number = number; value = value })

-- The change that a command makes at the receive board with so many queues, if it makes one.
abbrev pub receive_change : ℕ → KnownSettings → Command → Option Change
receive_change queues k (give.Mask q mask) =
    to_value (receive_number queues (receive.Cpus q)) (cpus_word mask)
receive_change queues k (give.Flows q count) =
    to_value (receive_number queues (receive.Flows q))
    (flows_word (rounded_up count) (slice_index k.generations q + 1))
receive_change queues k (give.Sock size) =
    to_value (receive_number queues receive.SocketSize) (socket_size_word (rounded_up size))
receive_change queues k (give.Offline cpu) =
    to_value (receive_number queues receive.Online) (cpus_word (without_cpu k.settings.online cpu))
receive_change queues k (give.Online cpu) =
    to_value (receive_number queues receive.Online) (cpus_word (with_cpu k.settings.online cpu))
receive_change queues k (give.XCpus tx mask) = None
receive_change queues k (give.XQueues tx rxqs) = None
receive_change queues k (give.Reta entry q) = None
receive_change queues k (give.Stand app cpu) = None
receive_change queues k give.Expire = None

-- The change that a command makes at the transmit board with so many queues, if it makes one.
abbrev pub transmit_change : ℕ → Command → Option Change
transmit_change txs (give.XCpus tx mask) =
    to_value (transmit_number txs (transmit.Cpus tx)) (cpus_word mask)
transmit_change txs (give.XQueues tx rxqs) =
    to_value (transmit_number txs (transmit.Queues tx)) (queues_word rxqs)
transmit_change txs _ = None

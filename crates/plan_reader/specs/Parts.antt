-- The ranges of the parts of a plan.
use Rattle.std.specs.Prelude.{ℕ, ◌^◌, ◌<◌, ◌≤◌, length, All}
use Rattle.steer_base.specs.declared.limits.TheConstants.{MAX_SOCKET_SIZE}
use Rattle.plan_reader.specs.declared.limits.TheConstants.{MAX_PLAN_BACKLOG, MAX_PLAN_FILTERS}
use Rattle.plan_reader.specs.declared.settings.parts.Parts.{Parts}
use Rattle.plan_reader.specs.declared.settings.parts.Receive.{Receive}
use Rattle.plan_reader.specs.declared.settings.parts.Tables.{Tables}
use Rattle.plan_reader.specs.declared.settings.parts.Sends.{Sends}
use Rattle.plan_reader.specs.Ranges.{StepsAreWithin, HasLength, QueueIsWithin, TxIsWithin}
use Rattle.plan_reader.specs.Ranges.{DetachIsWithin}

-- the settings of the receive side are within their ranges
pub record ReceiveIsWithin (receive : Receive) : Type 0 where
  pub some_cpu : 1 ≤ receive.cpus
  pub cpus_within : receive.cpus ≤ 32
  pub queues_length : HasLength 1 16 receive.queues
  pub queues_within : All (QueueIsWithin receive.cpus) receive.queues
  pub kinds_within : receive.kinds ≤ 63
  pub reta_length : HasLength 128 128 receive.reta
  pub reta_within : All (λ queue. queue < length receive.queues) receive.reta

-- the sizes of tables and the backlog limit are within their ranges
pub record TablesAreWithin (cpus : ℕ) (tables : Tables) : Type 0 where
  pub sock_within : tables.sock ≤ MAX_SOCKET_SIZE
  pub filters_within : tables.filters ≤ MAX_PLAN_FILTERS
  pub some_backlog : 1 ≤ tables.backlog
  pub backlog_within : tables.backlog ≤ MAX_PLAN_BACKLOG
  pub limited_within : tables.limited.0 < 2 ^ cpus

-- the settings of the transmit side are within their ranges
pub record SendsAreWithin (cpus queues : ℕ) (sends : Sends) : Type 0 where
  pub apps_length : HasLength 1 32 sends.apps
  pub apps_within : All (λ cpu. cpu < cpus) sends.apps
  pub tx_length : HasLength 1 32 sends.tx
  pub tx_within : All (TxIsWithin cpus queues) sends.tx
  pub some_worker : 1 ≤ sends.workers
  pub workers_within : sends.workers ≤ 32
  pub some_try : 1 ≤ sends.tries
  pub tries_within : sends.tries ≤ 64
  pub detach_length : HasLength 0 32 sends.detach
  pub detach_within : All DetachIsWithin sends.detach

-- the parts of a plan are within their ranges
pub record PartsAreWithin (parts : Parts) : Type 0 where
  pub receive_within : ReceiveIsWithin parts.receive
  pub tables_within : TablesAreWithin parts.receive.cpus parts.tables
  pub sends_within : SendsAreWithin parts.receive.cpus (length parts.receive.queues) parts.sends
  pub steps_within : StepsAreWithin
      (record {
        cpus = parts.receive.cpus;
        queues = length parts.receive.queues;
        apps = length parts.sends.apps;
        tx = length parts.sends.tx;
      })
      parts.steps

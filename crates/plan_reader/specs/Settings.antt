-- The settings of a plan and their ranges.
use Rattle.std.specs.Prelude.{ℕ, ◌^◌, ◌<◌, ◌≤◌, List, length, All}
use Rattle.steer_base.specs.declared.cpu_mask.CpuMask.{CpuMask}
use Rattle.steer_base.specs.declared.limits.TheConstants.{MAX_SOCKET_SIZE}
use Rattle.steer_base.specs.declared.step.Detach.{Detach}
use Rattle.plan_reader.specs.declared.limits.TheConstants.{MAX_PLAN_BACKLOG, MAX_PLAN_FILTERS}
use Rattle.plan_reader.specs.declared.plan.QueuePlan.{QueuePlan}
use Rattle.plan_reader.specs.declared.plan.TxPlan.{TxPlan}
use Rattle.plan_reader.specs.declared.plan.Steps.{Steps}
use Rattle.plan_reader.specs.Ranges.{HasLength, QueueIsWithin, TxIsWithin, DetachIsWithin}
use Rattle.plan_reader.specs.Ranges.{StepsAreWithin}

-- the settings of a plan, field by field
pub record PlanSettings : Type 0 where
  pub cpus : ℕ
  pub queues : List QueuePlan
  pub key : List ℕ
  pub kinds : ℕ
  pub reta : List ℕ
  pub sock : ℕ
  pub filters : ℕ
  pub backlog : ℕ
  pub start : ℕ
  pub limited : CpuMask
  pub apps : List ℕ
  pub tx : List TxPlan
  pub workers : ℕ
  pub tries : ℕ
  pub detach : List Detach
  pub steps : Steps

-- each setting of a plan is within its range
pub record IsWithin (plan : PlanSettings) : Type 0 where
  pub some_cpu : 1 ≤ plan.cpus
  pub cpus_within : plan.cpus ≤ 32
  pub queues_length : HasLength 1 16 plan.queues
  pub queues_within : All (QueueIsWithin plan.cpus) plan.queues
  pub kinds_within : plan.kinds ≤ 63
  pub reta_length : HasLength 128 128 plan.reta
  pub reta_within : All (λ queue. queue < length plan.queues) plan.reta
  pub sock_within : plan.sock ≤ MAX_SOCKET_SIZE
  pub filters_within : plan.filters ≤ MAX_PLAN_FILTERS
  pub some_backlog : 1 ≤ plan.backlog
  pub backlog_within : plan.backlog ≤ MAX_PLAN_BACKLOG
  pub limited_within : plan.limited.0 < 2 ^ plan.cpus
  pub apps_length : HasLength 1 32 plan.apps
  pub apps_within : All (λ cpu. cpu < plan.cpus) plan.apps
  pub tx_length : HasLength 1 32 plan.tx
  pub tx_within : All (TxIsWithin plan.cpus (length plan.queues)) plan.tx
  pub some_worker : 1 ≤ plan.workers
  pub workers_within : plan.workers ≤ 32
  pub some_try : 1 ≤ plan.tries
  pub tries_within : plan.tries ≤ 64
  pub detach_length : HasLength 0 32 plan.detach
  pub detach_within : All DetachIsWithin plan.detach
  pub steps_within : StepsAreWithin
      (record {
        cpus = plan.cpus;
        queues = length plan.queues;
        apps = length plan.apps;
        tx = length plan.tx;
      })
      plan.steps

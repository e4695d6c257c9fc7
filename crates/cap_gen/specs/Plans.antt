-- The plan of a generated capture.
use Rattle.std.specs.Prelude.{ℕ, [], ◌∷◌}
use Rattle.toeplitz.specs.declared.key.TheConstants.{VERIFICATION_KEY}
use Rattle.plan_reader.specs.declared.plan.QueuePlan.{QueuePlan}
use Rattle.plan_reader.specs.declared.plan.TxPlan.{TxPlan}
use Rattle.plan_reader.specs.declared.plan.Steps.TheVariants.{Seed}
use Rattle.steer_base.specs.Arrivals.{even_entries}
use Rattle.plan_reader.specs.Settings.{PlanSettings}

-- receive queue q, polled by processor q, with all four processors and 256 flows
abbrev pub generated_queue : ℕ → QueuePlan
generated_queue q = record { home = q; mask = record { 0 = 15 }; flows = 256 }

-- a transmit queue with these processors, by the bits of their set, and no receive queues
abbrev pub generated_tx : ℕ → TxPlan
generated_tx cpus = record { cpus = record { 0 = cpus }; queues = 0 }

-- the generated plan: four processors, each with a receive queue, an application and a transmit
-- queue of its own, and this many steps of the seed
abbrev pub plan_for : ℕ → ℕ → PlanSettings
plan_for seed count = record {
  cpus = 4;
  queues = generated_queue 0 ∷ generated_queue 1 ∷ generated_queue 2 ∷ generated_queue 3 ∷ [];
  key = VERIFICATION_KEY;
  kinds = 63;
  reta = even_entries 4;
  sock = 1024;
  filters = 0;
  backlog = 1000;
  start = 0;
  limited = record { 0 = 0 };
  apps = 0 ∷ 1 ∷ 2 ∷ 3 ∷ [];
  tx = generated_tx 1 ∷ generated_tx 2 ∷ generated_tx 4 ∷ generated_tx 8 ∷ [];
  workers = 4;
  tries = 1;
  detach = [];
  steps = Seed seed count;
}

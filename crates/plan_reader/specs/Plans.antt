-- The steps of a plan, and its commands.
use Rattle.std.specs.Prelude.{ℕ, ◌+◌, ◌==◌, length, slice_get, Option, Some, None, nat_lt}
use Rattle.std.specs.Prelude.{if◌then◌else◌}
use Rattle.steer_base.specs.declared.step.Step.{Step}
use Rattle.steer_base.specs.declared.step.Step.TheVariants.{Sweep}
use Rattle.plan_reader.specs.declared.settings.sizes.Sizes.{Sizes}
use Rattle.plan_reader.specs.declared.plan.Plan.{Plan}
use Rattle.plan_reader.specs.declared.plan.Steps.{Steps}
use Rattle.plan_reader.specs.declared.plan.Steps.TheVariants as steps
use Rattle.plan_reader.specs.Seeds.{seeded_step, seeded_word}

-- how many of each a plan has
abbrev pub sizes_of : Plan → Sizes
sizes_of plan =
    record {
      cpus = plan.cpus;
      queues = length plan.queues;
      apps = length plan.apps;
      tx = length plan.tx;
    }

-- the i-th step, from 0, of a list, or of a seed with the last sweep
abbrev pub nth_of : Sizes → Steps → ℕ → Option Step
nth_of sizes (steps.List list) i = slice_get list i
nth_of sizes (steps.Seed seed count) i =
    if nat_lt i count then Some (seeded_step sizes (seeded_word seed i))
    else (if i == count then Some Sweep else None)

-- how many steps there are: those of a list, or those of a seed and the sweep
abbrev pub count_of : Steps → ℕ
count_of (steps.List list) = length list
count_of (steps.Seed seed count) = count + 1

-- the number of steps of a plan
abbrev pub step_count : Plan → ℕ
step_count plan = count_of plan.steps

-- the i-th step of a plan
abbrev pub nth_step : Plan → ℕ → Option Step
nth_step plan i = nth_of (sizes_of plan) plan.steps i

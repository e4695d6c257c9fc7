use Rattle.std.proofs.Common.{◌≡◌}
use Rattle.plan_reader.specs.Plans.{sizes_of, step_count}
use Rattle.steer_invariant.specs.StepInvariant.{sizes_in}
use Rattle.core_tests.proofs.machine.make_all.Given as goal

-- the steps before this one were made, of those of the plan, and the machine has what the plan has
abbrev pub invariant-loop-i : goal.invariant-loop-i
invariant-loop-i l = record {
  made : l.steering.made ≡ l.i;
  steps : l.steering.steps ≡ step_count l.plan;
  sizes : sizes_in l.steering.machine.setup ≡ sizes_of l.plan;
}

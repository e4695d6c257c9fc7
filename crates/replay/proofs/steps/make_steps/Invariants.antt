use Rattle.std.proofs.Common.{◌≡◌}
use Rattle.plan_reader.specs.Cursors.{HasGiven}
use Rattle.plan_reader.specs.Plans.{sizes_of}
use Rattle.steer_invariant.specs.StepInvariant.{sizes_in}
use Rattle.replay.proofs.StepsLemmas.{run_at}
use Rattle.replay.proofs.steps.make_steps.Given as goal

-- the steps before this one were made, and the machine has what the plan has
abbrev pub invariant-loop : goal.invariant-loop
invariant-loop l = record {
  run : l.steering ≡ run_at l.plan l.packets l.fn.cut l.counter;
  sizes : sizes_in l.steering.machine.setup ≡ sizes_of l.plan;
  made : l.cursor.made ≡ l.counter;
  given : HasGiven l.plan.steps l.cursor;
}

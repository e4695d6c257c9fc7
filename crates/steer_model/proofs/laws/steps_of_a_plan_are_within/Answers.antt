use Rattle.std.proofs.Common.{arith}
use Rattle.steer_model.proofs.Capture.PlanLemmas.{plan_steps_are_within}
use Rattle.steer_model.proofs.laws.steps_of_a_plan_are_within.Goals as goal

pub returns : goal.returns
returns c =
    let within = c.args.plan.now.within in
    plan_steps_are_within c.args.plan.now
    (record {
      queues = omega (arith, within.queues_length.at_least);
      cpus = omega (arith, within.some_cpu);
      apps = omega (arith, within.apps_length.at_least);
      tx = omega (arith, within.tx_length.at_least);
      steps = within.steps_within;
    })

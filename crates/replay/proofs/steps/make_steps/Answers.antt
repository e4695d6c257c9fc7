use Rattle.std.proofs.Common.{◌≡◌, ◌∙◌, ◌+◌, IfOk, ap, arith, subst, sym}
use Rattle.plan_reader.specs.Plans.{nth_step, step_count}
use Rattle.steer_core.specs.Runs.{Run}
use Rattle.steer_invariant.specs.StepInvariant.{sizes_in}
use Rattle.steer_model.specs.State.Machine.{history_of}
use Rattle.replay.proofs.StepsLemmas.{run_at, stepped_at}
use Rattle.replay.proofs.steps.make_steps.Goals as goal

pub loop-preserved : goal.loop-preserved
loop-preserved c =
    let loop = c.loop in
    let made = c.step-answer.ensures in
    let step = c.next_step-step.ensures in
    record {
      run = made.state
          ∙ stepped_at c.args.plan.now c.args.packets.now c.args.cut loop.counter
          c.next_step-step.result loop.steering
          (ap (λ i. nth_step c.args.plan.now i) (sym loop.invariant.made) ∙ step.step)
          loop.invariant.run;
      sizes = ap sizes_in made.setup ∙ loop.invariant.sizes;
      made = step.made ∙ ap (λ i. i + 1) loop.invariant.made;
      given = step.given;
    }

pub returns : goal.returns
returns c =
    let plan = c.args.plan.now in
    let packets = c.args.packets.now in
    let all : c.loop.counter ≡ step_count plan =
    omega (arith, c.loop.auto.counter-end, c.loop-test.false, c.step_count-end.ensures) in
    let last = c.loop.invariant.run ∙ ap (run_at plan packets c.args.cut) all in
    subst (λ (r : Run). IfOk c.into_history.result (λ history. history ≡ history_of r.machine)) last
    c.into_history.ensures

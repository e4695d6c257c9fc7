use Rattle.std.proofs.Common.{◌≡◌, ap, length, sym, subst}
use Rattle.std.proofs.Math.ListN.{length-map}
use Rattle.std.specs.List.{AllPass}
use Rattle.plan_reader.specs.Plans.{sizes_of}
use Rattle.plan_reader.specs.Ranges.{step_is_within}
use Rattle.plan_reader.specs.declared.settings.sizes.Sizes.{Sizes}
use Rattle.steer_invariant.specs.StepInvariant.{sizes_in}
use Rattle.steer_model.specs.State.Start.{new_machine, setup_of, steps_of}
use Rattle.steer_model.specs.Steps.CompoundSteps.{after}
use Rattle.replay.proofs.CountsLemmas.{countable}
use Rattle.replay.proofs.steps.tell_countable.Goals as goal

pub returns : goal.returns
returns c =
    let plan = c.args.plan.now in
    let packets = c.args.packets.now in
    let cut = c.args.cut in
    let m = new_machine plan packets cut in
    let sizes : sizes_of plan ≡ sizes_in (setup_of plan packets cut) =
    ap (λ n. record { cpus = plan.cpus; queues = n; apps = length plan.apps; tx = length plan.tx })
    (sym (length-map plan.queues (λ queue. queue.home))) in
    let steps = steps_of plan in
    let within = c.steps_of_a_plan_are_within.ensures in
    let named = subst (λ (z : Sizes). AllPass (step_is_within z) steps) sizes within in
    let laws = c.every_step_keeps_the_machine.ensures in
    let held = laws.steps m steps named (laws.new plan packets cut c.tell_start.ensures) in
    let reports = c.a_machine_has_a_history_to_report.ensures in
    let last = after steps m in
    countable last held (reports last held)

-- Drains and ships after any steps of a plan.
use Rattle.std.proofs.Common.{ℕ, ◌<◌, ◌≡◌, List, Option, sym, subst}
use Rattle.std.specs.List.{AllPass}
use Rattle.steer_base.specs.declared.packet.Packet.{Packet}
use Rattle.steer_base.specs.declared.step.Step.{Step}
use Rattle.plan_reader.specs.Plans.{sizes_of}
use Rattle.plan_reader.specs.Ranges.{step_is_within}
use Rattle.plan_reader.specs.declared.plan.Plan.{Plan}
use Rattle.steer_model.specs.State.Machine.{Machine}
use Rattle.steer_model.specs.State.Setup.{Setup}
use Rattle.steer_model.specs.State.Start.{new_machine, setup_of}
use Rattle.steer_model.specs.Steps.CompoundSteps.{after}
use Rattle.steer_invariant.specs.InvariantLaws.{MayStart}
use Rattle.steer_invariant.proofs.Invariant.StartLemmas.{held-new}
use Rattle.steer_invariant.proofs.Invariant.StepLemmas.{named-in, runs_are_held}
use Rattle.steer_invariant.proofs.StepInvariant.StepLemmas.{steps_keep_setup}
use Rattle.steer_properties.specs.CompoundSteps.{DrainsOfRunsEmpty, ShipsOfRunsEmpty}
use Rattle.steer_properties.proofs.CompoundSteps.TurnLemmas.{drain_empties, ship_empties}

-- steps leave what the plan and the capture fix
setup-stays : (plan : Plan) (packets : List Packet) (cut : Option ℕ) (ss : List Step)
    → MayStart plan packets → AllPass (step_is_within (sizes_of plan)) ss
    → (after ss (new_machine plan packets cut)).setup ≡ setup_of plan packets cut
setup-stays plan packets cut ss may named =
    steps_keep_setup (new_machine plan packets cut) ss (named-in plan packets cut ss named)
    (held-new plan packets cut may).kept

pub drains_of_runs_empty : DrainsOfRunsEmpty
drains_of_runs_empty plan packets cut ss c may named lt =
    let m : Machine = after ss (new_machine plan packets cut) in
    drain_empties m c (runs_are_held plan packets cut ss may named).kept
    (subst (λ (p : Setup). c < p.cpus) (sym (setup-stays plan packets cut ss may named)) lt)

pub ships_of_runs_empty : ShipsOfRunsEmpty
ships_of_runs_empty plan packets cut ss x may named lt =
    let m : Machine = after ss (new_machine plan packets cut) in
    ship_empties m x (runs_are_held plan packets cut ss may named).kept
    (subst (λ (p : Setup). x < p.txs) (sym (setup-stays plan packets cut ss may named)) lt)

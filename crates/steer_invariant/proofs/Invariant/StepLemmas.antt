-- Steps that name what there is keep the machine held, and the history of every replay can be
-- reported.
use Rattle.std.proofs.Common.{ℕ, ◌<◌, ◌≡◌, List, Option, length, refl, ap, ◌∙◌, sym, subst, arith}
use Rattle.std.proofs.Math.ListN.{length-map}
use Rattle.steer_base.specs.declared.packet.Packet.{Packet}
use Rattle.steer_base.specs.declared.step.Step.{Step}
use Rattle.plan_reader.specs.Plans.{sizes_of}
use Rattle.plan_reader.specs.declared.plan.Plan.{Plan}
use Rattle.plan_reader.specs.declared.settings.sizes.Sizes.{Sizes}
use Rattle.std.specs.List.{AllPass}
use Rattle.plan_reader.specs.Ranges.{step_is_within}
use Rattle.steer_model.specs.State.Machine.{Machine, history_of}
use Rattle.steer_model.specs.State.Setup.{Setup, flow_number_of}
use Rattle.steer_model.specs.State.Start.{new_machine, setup_of, steps_of}
use Rattle.steer_model.specs.Steps.SingleSteps.{simple}
use Rattle.steer_model.specs.Steps.CompoundSteps.{after, step}
use Rattle.steer_model.proofs.Capture.PlanLemmas.{plan_steps_are_within}
use Rattle.steer_invariant.specs.Invariant.{Invariant}
use Rattle.steer_invariant.specs.InvariantLaws.{IsReportable, MayStart, ReplaysAreReportable}
use Rattle.steer_invariant.specs.InvariantLaws.{RunsAreReportable}
use Rattle.steer_invariant.specs.StepInvariant.{AreNamed, IsNamed, sizes_in}
use Rattle.steer_invariant.proofs.Invariant.HistoryLemmas.{held_is_reportable}
use Rattle.steer_invariant.proofs.Invariant.StartLemmas.{held-new}
use Rattle.steer_invariant.proofs.StepInvariant.StepLemmas.{flow_small}
use Rattle.steer_invariant.proofs.StepInvariant.SingleStepLemmas.{goes-simple}
use Rattle.steer_invariant.proofs.NamedLiftLemmas.{after-keeps, step-keeps}
use Rattle.steer_invariant.proofs.Ranges.StepLemmas.{ranged-simple}
use Rattle.steer_invariant.proofs.Recorded.StepLemmas.{recorded-simple}

pub held-simple : (m : Machine) (s : Step) → IsNamed m.setup s → Invariant m → Invariant
    (simple m s).0
held-simple m s named h =
    record {
      kept = (goes-simple m h.kept s named).kept;
      ranged = ranged-simple m h.ranged s named h.kept;
      recorded = recorded-simple m s h.kept h.recorded;
    }

-- a machine of this setup that is held
record Standing (p : Setup) (m : Machine) : Type 0 where
  setup : m.setup ≡ p
  held : Invariant m

standing-simple : (p : Setup) (m : Machine) (s : Step) → IsNamed p s → Standing p m
    → Standing p (simple m s).0
standing-simple p m s named h =
    let here : IsNamed m.setup s = subst (λ (q : Setup). IsNamed q s) (sym h.setup) named in
    let k = h.held in
    record { setup = (goes-simple m k.kept s here).setup ∙ h.setup; held = held-simple m s here k }

module _ (m : Machine) (h : Invariant m) where
  flows : (x : ℕ) → flow_number_of m.setup x < 262144
  flows x = let k = h.kept in flow_small m.setup x k.given

  stands : Standing m.setup m
  stands = record { setup = refl; held = h }

  pub held-step : (s : Step) → IsNamed m.setup s → Invariant (step m s).0
  held-step s named =
      (step-keeps m.setup (Standing m.setup) (λ n k. k.setup) flows (standing-simple m.setup) m s
      named stands).held

  standing-after : (ss : List Step) → AreNamed m.setup ss → Standing m.setup (after ss m)
  standing-after ss named =
      after-keeps m.setup (Standing m.setup) (λ n k. k.setup) flows (standing-simple m.setup) ss m
      named stands

  pub held-after : (ss : List Step) → AreNamed m.setup ss → Invariant (after ss m)
  held-after ss named = (standing-after ss named).held

  pub reportable-after : (ss : List Step) → AreNamed m.setup ss
      → IsReportable m.setup.packets m.setup.apps (history_of (after ss m))
  reportable-after ss named =
      let n = standing-after ss named in
      subst (λ (p : Setup). IsReportable p.packets p.apps (history_of (after ss m))) n.setup
      (held_is_reportable (after ss m) n.held)

-- ---- a plan

-- the machine of a plan has what the plan has
sizes-same : (plan : Plan) (packets : List Packet) (cut : Option ℕ)
    → sizes_in (setup_of plan packets cut) ≡ sizes_of plan
sizes-same plan packets cut =
    ap (λ n. record { cpus = plan.cpus; queues = n; apps = length plan.apps; tx = length plan.tx })
    (length-map plan.queues (λ queue. queue.home))

-- steps that name what a plan has name what its machine has
pub named-in : (plan : Plan) (packets : List Packet) (cut : Option ℕ) (ss : List Step)
    → AllPass (step_is_within (sizes_of plan)) ss → AreNamed (setup_of plan packets cut) ss
named-in plan packets cut ss named =
    subst (λ (z : Sizes). AllPass (step_is_within z) ss) (sym (sizes-same plan packets cut)) named

pub runs_are_held : (plan : Plan) (packets : List Packet) (cut : Option ℕ) (ss : List Step)
    → MayStart plan packets → AllPass (step_is_within (sizes_of plan)) ss
    → Invariant (after ss (new_machine plan packets cut))
runs_are_held plan packets cut ss may named =
    held-after (new_machine plan packets cut) (held-new plan packets cut may) ss
    (named-in plan packets cut ss named)

pub runs_are_reportable : RunsAreReportable
runs_are_reportable plan packets cut ss may named =
    reportable-after (new_machine plan packets cut) (held-new plan packets cut may) ss
    (named-in plan packets cut ss named)

-- each step of a plan names what the plan has
pub plan_steps_within : (plan : Plan) → AllPass (step_is_within (sizes_of plan)) (steps_of plan)
plan_steps_within plan =
    let w = plan.within in
    plan_steps_are_within plan
    (record {
      queues = omega (arith, w.queues_length.at_least);
      cpus = omega (arith, w.some_cpu);
      apps = omega (arith, w.apps_length.at_least);
      tx = omega (arith, w.tx_length.at_least);
      steps = w.steps_within;
    })

pub replays_are_reportable : ReplaysAreReportable
replays_are_reportable plan packets cut may =
    runs_are_reportable plan packets cut (steps_of plan) may (plan_steps_within plan)

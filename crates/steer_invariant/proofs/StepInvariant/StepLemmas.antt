-- What the machine's invariant says in other words, and that all steps keep it.
use Rattle.std.proofs.Common.{ℕ, ◌<◌, ◌≡◌, List, refl, ◌∙◌, arith}
use Rattle.steer_base.specs.declared.step.Step.{Step}
use Rattle.steer_model.proofs.Capture.FlowLemmas.{count_within}
use Rattle.steer_model.specs.State.Ranges.{IsGiven}
use Rattle.steer_model.specs.State.Machine.{Machine}
use Rattle.steer_model.specs.State.Setup.{Setup, flow_number_of}
use Rattle.steer_model.specs.Steps.SingleSteps.{simple}
use Rattle.steer_model.specs.Steps.CompoundSteps.{after, step}
use Rattle.steer_invariant.specs.StepInvariant.{AreNamed, IsNamed, StepInvariant}
use Rattle.steer_invariant.specs.StepInvariantLaws.{EventsKeepStepInvariant, GatesAreOpen}
use Rattle.steer_invariant.specs.StepInvariantLaws.{StepKeepsStepInvariant, StepsKeepStepInvariant}
use Rattle.steer_invariant.specs.StepInvariantLaws.{StepsKeepSetup}
use Rattle.steer_invariant.proofs.StepInvariant.ReplyLemmas.{flow_below}
use Rattle.steer_invariant.proofs.StepInvariant.SingleStepLemmas.{goes-simple}
use Rattle.steer_invariant.proofs.NamedLiftLemmas.{after-keeps, step-keeps}

pub kept_is_open : GatesAreOpen
kept_is_open m k = record { rx = k.rx.opened; tx = k.tx.opened; no_drops = k.tx.ample.none }

pub events_keep_kept : EventsKeepStepInvariant
events_keep_kept m s named k = (goes-simple m k s named).kept

-- a machine of this setup in which the invariant holds
pub record KeptOf (p : Setup) (m : Machine) : Type 0 where
  pub setup : m.setup ≡ p
  pub kept : StepInvariant m

kept_of-simple : (p : Setup) (m : Machine) (s : Step) → IsNamed p s → KeptOf p m
    → KeptOf p (simple m s).0
kept_of-simple p m s named k =
    let g = goes-simple m k.kept s (rw k.setup named) in
    record { setup = g.setup ∙ k.setup; kept = g.kept }

-- flow numbers are below those that a step may name
pub flow_small : (p : Setup) (x : ℕ) → IsGiven p → flow_number_of p x < 262144
flow_small p x g =
    let f = flow_below p x g in let few = g.few_packets in
    let within = count_within p.packets g.flows in
    omega (arith, f, few, within)

kept-step : (m : Machine) (s : Step) → IsNamed m.setup s → StepInvariant m → KeptOf m.setup
    (step m s).0
kept-step m s named k =
    step-keeps m.setup (KeptOf m.setup) (λ n h. h.setup) (λ x. flow_small m.setup x k.given)
    (kept_of-simple m.setup)
    m s named (record { setup = refl; kept = k })

pub step_keeps_kept : StepKeepsStepInvariant
step_keeps_kept m s named k = (kept-step m s named k).kept

pub step_keeps_setup : (m : Machine) (s : Step) → IsNamed m.setup s → StepInvariant m
    → (step m s).0.setup ≡ m.setup
step_keeps_setup m s named k = (kept-step m s named k).setup

kept-after : (m : Machine) (ss : List Step) → AreNamed m.setup ss → StepInvariant m
    → KeptOf m.setup (after ss m)
kept-after m ss named k =
    after-keeps m.setup (KeptOf m.setup) (λ n h. h.setup) (λ x. flow_small m.setup x k.given)
    (kept_of-simple m.setup)
    ss m named (record { setup = refl; kept = k })

pub steps_keep_kept : StepsKeepStepInvariant
steps_keep_kept m ss named k = (kept-after m ss named k).kept

pub steps_keep_setup : StepsKeepSetup
steps_keep_setup m ss named k = (kept-after m ss named k).setup

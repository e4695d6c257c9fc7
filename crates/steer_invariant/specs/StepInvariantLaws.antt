-- Laws of what the machine keeps.
use Rattle.std.specs.Prelude.{ℕ, ◌≡◌, false, List, []}
use Rattle.steer_base.specs.declared.step.Step.{Step}
use Rattle.hop_model.specs.Hop.{drops_at}
use Rattle.steer_model.specs.State.Machine.{Machine}
use Rattle.steer_model.specs.Steps.SingleSteps.{simple}
use Rattle.steer_model.specs.Steps.CompoundSteps.{after, step}
use Rattle.steer_invariant.specs.StepInvariant.{AreNamed, IsNamed, StepInvariant}

-- Both gates are open, and no reply was dropped.
pub record IsOpen (m : Machine) : Type 0 where
  pub rx : m.rx.bare.closed ≡ false
  pub tx : m.tx.bare.closed ≡ false
  pub no_drops : (t : ℕ) → drops_at m.tx.bare t ≡ []

-- Between steps both gates are open, and no reply was dropped.
abbrev pub GatesAreOpen : Type 0
GatesAreOpen = (m : Machine) → StepInvariant m → IsOpen m

-- Each step of one event and each command that names what the machine has preserves the step
-- invariant.
abbrev pub EventsKeepStepInvariant : Type 0
EventsKeepStepInvariant = (m : Machine) (s : Step) → IsNamed m.setup s → StepInvariant m
    → StepInvariant (simple m s).0

-- Each step that names what the machine has preserves the step invariant.
abbrev pub StepKeepsStepInvariant : Type 0
StepKeepsStepInvariant = (m : Machine) (s : Step) → IsNamed m.setup s → StepInvariant m
    → StepInvariant (step m s).0

-- Each list of steps that name what the machine has preserves the step invariant.
abbrev pub StepsKeepStepInvariant : Type 0
StepsKeepStepInvariant = (m : Machine) (ss : List Step) → AreNamed m.setup ss → StepInvariant m
    → StepInvariant (after ss m)

-- Steps that name what the machine has leave what the plan and the capture fix.
abbrev pub StepsKeepSetup : Type 0
StepsKeepSetup =
    (m : Machine) (ss : List Step) → AreNamed m.setup ss → StepInvariant m
    → (after ss m).setup ≡ m.setup

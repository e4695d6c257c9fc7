-- Laws of the sweep.
use Rattle.std.specs.Prelude.{ℕ, ◌<◌, ◌≡◌, false, List, [], ◌∷◌, ◌++◌, Option, length}
use Rattle.std.specs.List.{AllPass}
use Rattle.steer_base.specs.declared.packet.Packet.{Packet}
use Rattle.steer_base.specs.declared.step.Step.{Step}
use Rattle.steer_base.specs.declared.step.Step.TheVariants as act
use Rattle.plan_reader.specs.Plans.{sizes_of}
use Rattle.plan_reader.specs.Ranges.{step_is_within}
use Rattle.plan_reader.specs.declared.plan.Plan.{Plan}
use Rattle.plan_reader.specs.declared.plan.Steps.TheVariants as steps
use Rattle.steer_model.specs.Good.Deliveries.{IsSwept}
use Rattle.steer_model.specs.State.Machine.{Machine, history_of}
use Rattle.steer_model.specs.State.Start.{new_machine, replayed}
use Rattle.steer_model.specs.Steps.CompoundSteps.{after, one_round, step}
use Rattle.steer_invariant.specs.InvariantLaws.{MayStart}
use Rattle.steer_invariant.specs.StepInvariant.{StepInvariant}
use Rattle.steer_properties.specs.Sweep.Rest.{AtRest, IsThrough}

-- A round of the machine does no work.
abbrev pub IsIdleRound : Machine → Type 0
IsIdleRound m = (one_round (m, false)).1 ≡ false

-- A sweep ends with an idle round, and not because its rounds are used up.
pub record EndsIdle (m : Machine) : Type 0 where
  pub last : Machine
  pub idle : IsIdleRound last
  pub ends : (step m act.Sweep).0 ≡ (one_round (last, false)).0

-- Every sweep ends with an idle round.
abbrev pub SweepEndsIdle : Type 0
SweepEndsIdle = (m : Machine) → StepInvariant m → EndsIdle m

-- After an idle round the machine is at rest.
abbrev pub IdleRoundRests : Type 0
IdleRoundRests = (m : Machine) → StepInvariant m → IsIdleRound m → AtRest (one_round (m, false)).0

-- After a sweep the machine is at rest.
abbrev pub SweepEndsAtRest : Type 0
SweepEndsAtRest = (m : Machine) → StepInvariant m → AtRest (step m act.Sweep).0

-- In a machine at rest each packet of the capture went all its way.
abbrev pub RestIsThrough : Type 0
RestIsThrough =
    (m : Machine) → StepInvariant m → AtRest m → (x : ℕ) → x < length m.setup.packets
    → IsThrough m x

-- After a sweep each packet of the capture went all its way.
abbrev pub SweptIsThrough : Type 0
SweptIsThrough =
    (m : Machine) → StepInvariant m → (x : ℕ) → x < length m.setup.packets
    → IsThrough (step m act.Sweep).0 x

-- The history of a machine at rest is swept.
abbrev pub RestIsSwept : Type 0
RestIsSwept = (m : Machine) → StepInvariant m → AtRest m → IsSwept (history_of m)

-- The history after a sweep is swept.
abbrev pub SweepSweeps : Type 0
SweepSweeps = (m : Machine) → StepInvariant m → IsSwept (history_of (step m act.Sweep).0)

-- The history of every plan after any of its steps and a sweep is swept.
abbrev pub SweptRunsAreSwept : Type 0
SweptRunsAreSwept =
    (plan : Plan) (packets : List Packet) (cut : Option ℕ) (ss : List Step) → MayStart plan packets
    → AllPass (step_is_within (sizes_of plan)) ss
    → IsSwept (history_of (after (ss ++ act.Sweep ∷ []) (new_machine plan packets cut)))

-- The history of every seeded plan is swept.
abbrev pub SeededReplaysAreSwept : Type 0
SeededReplaysAreSwept =
    (plan : Plan) (packets : List Packet) (cut : Option ℕ) (seed count : ℕ)
    → MayStart plan packets → plan.steps ≡ steps.Seed seed count
    → IsSwept (replayed plan packets cut)

-- The history of a replay that ends with a sweep meets each clause of a good history, but that its
-- writes and its tries of commands are those of its steps.
use Rattle.std.specs.Prelude.{ℕ, ◌≡◌, [], ◌∷◌, ◌++◌, List}
use Rattle.std.specs.List.{AllPass}
use Rattle.history.specs.declared.history.History.{History}
use Rattle.plan_reader.specs.Plans.{sizes_of}
use Rattle.plan_reader.specs.Ranges.{step_is_within}
use Rattle.plan_reader.specs.declared.plan.Steps.TheVariants as steps
use Rattle.steer_base.specs.declared.step.Step.{Step}
use Rattle.steer_base.specs.declared.step.Step.TheVariants as act
use Rattle.steer_invariant.specs.InvariantLaws.{MayStart}
use Rattle.steer_model.specs.Good.Arrivals.{HasArrived, QueuesAreSeen}
use Rattle.steer_model.specs.Good.Choices.{ChoicesAreByRule, HeadsAreRising, WantsAreWritten}
use Rattle.steer_model.specs.Good.Deliveries.{IsSteered, IsSwept}
use Rattle.steer_model.specs.Good.Drops.{DropsAreExplained}
use Rattle.steer_model.specs.Good.Replies.{RepliesAreByRule}
use Rattle.steer_model.specs.Good.Inputs.{Input}
use Rattle.steer_model.specs.State.Machine.{history_of}
use Rattle.steer_model.specs.State.Start.{new_machine, replayed}
use Rattle.steer_model.specs.Steps.CompoundSteps.{after}
use Rattle.steer_properties.specs.Commands.Answered.{AreAnswered, WritesAreMade}

-- The history of a replay that ends with a sweep: each clause of a good history, but that its
-- writes and its tries of commands are those of its steps.
pub record GoodAtRest (i : Input) (h : History) : Type 0 where
  pub at : ℕ → ℕ → ℕ
  pub tx_at : ℕ → ℕ → ℕ
  pub arrived : HasArrived i h
  pub queues : QueuesAreSeen i h
  pub choices : ChoicesAreByRule i h at
  pub wants : WantsAreWritten i h at
  pub heads : HeadsAreRising h
  pub drops : DropsAreExplained i h
  pub steered : IsSteered i h
  pub swept : IsSwept h
  pub writes : WritesAreMade i h
  pub commands : AreAnswered i h
  pub replies : RepliesAreByRule i h tx_at

-- The history after any steps that name what the plan has and a sweep is good at rest.
abbrev pub SweptRunsAreGood : Type 0
SweptRunsAreGood =
    (i : Input) (ss : List Step) → MayStart i.plan i.packets
    → AllPass (step_is_within (sizes_of i.plan)) ss
    → GoodAtRest i (history_of (after (ss ++ act.Sweep ∷ []) (new_machine i.plan i.packets i.cut)))

-- The history of every seeded plan, whose steps end with a sweep, is good at rest.
abbrev pub SeededReplaysAreGood : Type 0
SeededReplaysAreGood =
    (i : Input) (seed count : ℕ) → MayStart i.plan i.packets
    → i.plan.steps ≡ steps.Seed seed count
    → GoodAtRest i (replayed i.plan i.packets i.cut)

-- What holds of the history of every replay, whatever steps were made so far.
use Rattle.std.specs.Prelude.{List}
use Rattle.std.specs.List.{AllPass}
use Rattle.history.specs.declared.history.History.{History}
use Rattle.plan_reader.specs.Plans.{sizes_of}
use Rattle.plan_reader.specs.Ranges.{step_is_within}
use Rattle.steer_base.specs.declared.step.Step.{Step}
use Rattle.steer_invariant.specs.InvariantLaws.{MayStart}
use Rattle.steer_model.specs.Good.Inputs.{Input}
use Rattle.steer_model.specs.State.Machine.{history_of}
use Rattle.steer_model.specs.State.Start.{new_machine, replayed}
use Rattle.steer_model.specs.Steps.CompoundSteps.{after}

-- A property holds of the history after any steps that name what the plan has, and after all steps
-- of the plan.
pub record Always (P : Input → History → Type 0) : Type 0 where
  pub runs : (i : Input) (ss : List Step) → MayStart i.plan i.packets
      → AllPass (step_is_within (sizes_of i.plan)) ss
      → P i (history_of (after ss (new_machine i.plan i.packets i.cut)))
  pub replays : (i : Input) → MayStart i.plan i.packets → P i (replayed i.plan i.packets i.cut)

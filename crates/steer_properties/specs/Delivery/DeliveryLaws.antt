-- Laws of order and of drops, of each history that a plan makes.
use Rattle.std.specs.Prelude.{List}
use Rattle.std.specs.List.{AllPass}
use Rattle.steer_base.specs.declared.step.Step.{Step}
use Rattle.history.specs.declared.history.History.{History}
use Rattle.plan_reader.specs.Plans.{sizes_of}
use Rattle.plan_reader.specs.Ranges.{step_is_within}
use Rattle.steer_model.specs.Good.Deliveries.{IsSteered}
use Rattle.steer_model.specs.Good.Drops.{DropsAreExplained}
use Rattle.steer_model.specs.Good.Replies.{AreInOneTxPlace, LeaveInOrder}
use Rattle.steer_model.specs.Good.Inputs.{Input}
use Rattle.steer_model.specs.State.Machine.{history_of}
use Rattle.steer_model.specs.State.Start.{new_machine, replayed}
use Rattle.steer_model.specs.Steps.CompoundSteps.{after}
use Rattle.steer_invariant.specs.InvariantLaws.{MayStart}

-- A history delivers each flow in order: from each queue to the inbox, from each application to the
-- port, and from end to end; each packet and each reply is in one place, and each drop has its
-- cause.
pub record DeliversInOrder (i : Input) (h : History) : Type 0 where
  pub steered : IsSteered i h
  pub drops : DropsAreExplained i h
  pub places : AreInOneTxPlace h
  pub leave : LeaveInOrder i h

-- The history after any steps that name what the plan has delivers each flow in order.
abbrev pub RunsDeliverInOrder : Type 0
RunsDeliverInOrder =
    (i : Input) (ss : List Step) → MayStart i.plan i.packets
    → AllPass (step_is_within (sizes_of i.plan)) ss
    → DeliversInOrder i (history_of (after ss (new_machine i.plan i.packets i.cut)))

-- The history after all steps of a plan delivers each flow in order.
abbrev pub ReplaysDeliverInOrder : Type 0
ReplaysDeliverInOrder =
    (i : Input) → MayStart i.plan i.packets → DeliversInOrder i (replayed i.plan i.packets i.cut)

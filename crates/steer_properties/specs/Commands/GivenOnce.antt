-- Which commands the history of a replay has.
use Rattle.std.specs.Prelude.{List}
use Rattle.std.specs.List.{AllPass, filter_map}
use Rattle.plan_reader.specs.Plans.{sizes_of}
use Rattle.plan_reader.specs.Ranges.{command_in, commands_of, step_is_within}
use Rattle.steer_base.specs.declared.step.Step.{Step}
use Rattle.steer_invariant.specs.InvariantLaws.{MayStart}
use Rattle.steer_model.specs.Good.Commands.{AreGiven}
use Rattle.steer_model.specs.Good.Inputs.{Input}
use Rattle.steer_model.specs.State.Machine.{history_of}
use Rattle.steer_model.specs.State.Start.{new_machine, replayed}
use Rattle.steer_model.specs.Steps.CompoundSteps.{after}

-- After any steps that name what the plan has, the commands of the history are those among these
-- steps, in order, each given once.
abbrev pub RunsGiveOnce : Type 0
RunsGiveOnce =
    (i : Input) (ss : List Step) → MayStart i.plan i.packets
    → AllPass (step_is_within (sizes_of i.plan)) ss
    → AreGiven 1 (filter_map command_in ss)
    (history_of (after ss (new_machine i.plan i.packets i.cut))).commands

-- After all steps of a plan the commands of the history are the plan's, each given once.
abbrev pub ReplaysGiveOnce : Type 0
ReplaysGiveOnce =
    (i : Input) → MayStart i.plan i.packets
    → AreGiven 1 (commands_of i.plan.steps) (replayed i.plan i.packets i.cut).commands

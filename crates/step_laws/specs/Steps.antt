-- Laws of steps and of commands.
use Rattle.std.specs.Prelude.{◌≡◌, false}
use Rattle.steer_base.specs.declared.command.Answer.TheVariants as says
use Rattle.steer_base.specs.declared.command.Command.{Command}
use Rattle.steer_base.specs.declared.idle.Idle.{Idle}
use Rattle.steer_base.specs.declared.step.Step.{Step}
use Rattle.steer_model.specs.Steps.Commands.{answer_to, given, is_done, listed}
use Rattle.steer_model.specs.State.Machine.{Machine}
use Rattle.steer_model.specs.Steps.SingleSteps.{is_command, simple}

-- A step of one event that is idle leaves the machine as it was; a command is none of these, since
-- it is listed even if it is idle.
abbrev pub IdleLeavesAll : Type 0
IdleLeavesAll =
    (m : Machine) (s : Step) (why : Idle) → is_command s ≡ false
    → (simple m s).1 ≡ says.Idle why → (simple m s).0 ≡ m

-- A command that is not done changes nothing but the list of commands.
abbrev pub RefusedLeavesAll : Type 0
RefusedLeavesAll =
    (m : Machine) (c : Command) → is_done (answer_to m c) ≡ false
    → (given m c).0 ≡ listed m c (answer_to m c)

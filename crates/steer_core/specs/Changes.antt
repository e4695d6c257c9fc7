-- What a command changes.
use Rattle.std.specs.Prelude.{Bool, true, false, if◌then◌else◌}
use Rattle.steer_base.specs.declared.command.Command.{Command}
use Rattle.steer_base.specs.declared.command.Command.TheVariants as give
use Rattle.steer_model.specs.State.Machine.{Machine}
use Rattle.steer_model.specs.Steps.Commands.{answer_to, is_done, set_by}

-- Whether a command changes its setting and nothing else.
abbrev pub stands_alone : Command → Bool
stands_alone (give.Flows q count) = false
stands_alone (give.Sock size) = false
stands_alone give.Expire = false
stands_alone _ = true

-- The machine after a command, before it is listed: changed if its answer is that it is done.
abbrev pub done_by : Machine → Command → Machine
done_by m c = if is_done (answer_to m c) then set_by m c else m

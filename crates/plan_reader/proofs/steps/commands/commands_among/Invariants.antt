use Rattle.std.proofs.Common.{◌≡◌, ◌++◌, drop}
use Rattle.std.specs.List.{filter_map}
use Rattle.plan_reader.specs.Ranges.{command_in}
use Rattle.plan_reader.proofs.steps.commands.commands_among.Given as goal

abbrev pub invariant-loop-step : goal.invariant-loop-step
invariant-loop-step l = l.commands.items ++ filter_map command_in
    (drop l.step-index l.steps) ≡ filter_map command_in l.steps

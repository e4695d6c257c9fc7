-- The settings of a machine are those that the commands of its list leave.
use Rattle.std.specs.Prelude.{◌≡◌, List}
use Rattle.steer_base.specs.declared.step.Step.{Step}
use Rattle.steer_model.specs.Good.Inputs.{settings_after}
use Rattle.steer_model.specs.State.Machine.{Machine}
use Rattle.steer_model.specs.State.Settings.{Settings}
use Rattle.steer_model.specs.Steps.CompoundSteps.{after}

-- After any steps the settings are the first ones changed by the done commands.
abbrev pub SettingsFollow : Type 0
SettingsFollow =
    (s : Settings) (m : Machine) (ss : List Step) → m.settings ≡ settings_after s m.commands
    → (after ss m).settings ≡ settings_after s (after ss m).commands

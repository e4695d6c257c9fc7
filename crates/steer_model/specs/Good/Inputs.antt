-- What a run is given, and what the commands of its history have set before each of its choices.
use Rattle.std.specs.Prelude.{ℕ, ◌+◌, ◌≤◌, ◌<◌, ◌≡◌, Bool, false, ◌&&◌, ◌==◌, List, [], ◌∷◌}
use Rattle.std.specs.Prelude.{Option, Some}
use Rattle.std.specs.Prelude.{take, drop, slice_get, if◌then◌else◌, suc, zero}
use Rattle.std.specs.List.{list_any}
use Rattle.steer_base.specs.declared.command.Answer.TheVariants as says
use Rattle.steer_base.specs.declared.command.Command.{Command}
use Rattle.steer_base.specs.declared.command.Command.TheVariants as give
use Rattle.steer_base.specs.declared.packet.Packet.{Packet}
use Rattle.history.specs.declared.commanded.Commanded.{Commanded}
use Rattle.history.specs.declared.history.History.{History}
use Rattle.plan_reader.specs.declared.plan.Plan.{Plan}
use Rattle.steer_model.specs.Steps.Commands.{is_done}
use Rattle.steer_model.specs.State.Settings.{Settings, changed}
use Rattle.steer_model.specs.State.Setup.{Setup}
use Rattle.steer_model.specs.State.Start.{setup_of, initial_settings}

-- a plan, the packets of a capture, and the length of its cut record
pub record Input : Type 0 where
  pub plan : Plan
  pub packets : List Packet
  pub cut : Option ℕ

-- the setup of an input: what its plan and its capture fix
abbrev pub setup_in : Input → Setup
setup_in i = setup_of i.plan i.packets i.cut

-- the settings after these commands, of which only the done ones count
abbrev pub settings_after : Settings → List Commanded → Settings
settings_after s [] = s
settings_after s (c ∷ cs) =
    settings_after (if is_done c.answer then changed s c.command else s) cs

-- the plan's settings after the first n commands of a history
abbrev pub settings_at : Input → History → ℕ → Settings
settings_at i h n = settings_after (initial_settings i.plan) (take n h.commands)

-- For each choice of a list how many commands it was made after: never more than there are, and
-- never fewer than for the choice before it.
pub record Prefixes (choices commands : ℕ) (at : ℕ → ℕ) : Type 0 where
  pub within : (k : ℕ) → k < choices → at k ≤ commands
  pub grow : (k : ℕ) → k + 1 < choices → at k ≤ at (k + 1)

-- whether a command sets the flow count of this queue
abbrev pub is_flows : ℕ → Command → Bool
is_flows q (give.Flows r count) = q == r
is_flows q _ = false

-- whether a command that was done set the flow count of this queue
abbrev pub is_resize : ℕ → Commanded → Bool
is_resize q c = is_flows q c.command && is_done c.answer

-- the first choice of a queue since its last resize before choice k; a resize is between two
-- choices if it is among the commands before the second and not among those before the first
abbrev pub since_at : List Commanded → ℕ → (ℕ → ℕ) → ℕ → ℕ
since_at cs q at zero = 0
since_at cs q at (suc k) =
    if list_any (is_resize q) (drop (at k) (take (at (suc k)) cs)) then suc k
    else since_at cs q at k

-- A command was given and done.
abbrev pub WasDone : History → Command → Type 0
WasDone h c = (j : ℕ) × (slice_get h.commands j ≡ Some (record { command = c; answer = says.Done }))

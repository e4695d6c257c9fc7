-- The run of a plan: its machine, and how many steps it made.
use Rattle.std.specs.Prelude.{ℕ, ◌+◌, ◌≤◌, ◌≡◌, List, Option, length}
use Rattle.steer_base.specs.declared.packet.Packet.{Packet}
use Rattle.steer_base.specs.declared.step.Step.{Step}
use Rattle.hop_model.specs.Hop.{placed_of}
use Rattle.history.specs.Lists.{list_at}
use Rattle.plan_reader.specs.Plans.{step_count}
use Rattle.plan_reader.specs.declared.plan.Plan.{Plan}
use Rattle.steer_model.specs.State.Machine.{Machine}
use Rattle.steer_model.specs.State.Start.{new_machine}
use Rattle.steer_model.specs.Steps.CompoundSteps.{step}
use Rattle.steer_core.specs.Running.{Running}

-- A run of a plan: its machine, the number of steps made, and the number of steps of the plan.
pub record Run : Type 0 where
  pub machine : Machine
  pub made : ℕ
  pub steps : ℕ

-- The run of a plan over the packets of a capture, before its first step.
abbrev pub new_run : Plan → List Packet → Option ℕ → Run
new_run plan packets cut =
    record { machine = new_machine plan packets cut; made = 0; steps = step_count plan }

-- The run after one more step.
abbrev pub stepped : Run → Step → Run
stepped r s = record r { machine = (step r.machine s).0; made = r.made + 1 }

-- The lists of commands and of writes are no longer than the steps that were made allow: a step
-- gives one command at most, and each write is that of a step or goes before a reply. So what was
-- reserved is enough.
pub record HaveRoomForSteps (running : Running) (made steps : ℕ) : Type 0 where
  pub within : made ≤ steps
  pub room_for_commands : running.rooms.commands ≡ steps
  pub room_for_writes : running.rooms.writes ≡ steps + length running.machine.setup.packets
  pub commands : length running.machine.commands ≤ made
  pub writes : (a : ℕ)
      → length (list_at running.machine.writes a) ≤ made + placed_of running.machine.tx a

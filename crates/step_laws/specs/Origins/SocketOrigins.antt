-- Where the entries of the socket flow table come from: each that is set stands in the history as
-- a write to it (kernel scaling chapter, section RFS).
use Rattle.std.specs.Prelude.{ℕ, ◌<◌, ◌≡◌, List, Option, Some, length}
use Rattle.steer_base.specs.declared.packet.Packet.{Packet}
use Rattle.steer_base.specs.declared.step.Step.{Step}
use Rattle.plan_reader.specs.declared.plan.Plan.{Plan}
use Rattle.steer_model.specs.Good.Choices.{WasWritten}
use Rattle.steer_model.specs.State.Machine.{Machine, history_of}
use Rattle.steer_model.specs.State.Start.{new_machine}
use Rattle.step_laws.specs.Origins.TableWrites.{socket_at}
use Rattle.steer_model.specs.Steps.CompoundSteps.{after}

-- The table has the size in force, and each entry that is set has the processor of a write that
-- some application made at that entry. Each application has a list of writes.
pub record SocketIsWritten (m : Machine) : Type 0 where
  pub size : length m.socket ≡ m.settings.sock
  pub written : (place cpu : ℕ) → socket_at place m ≡ Some cpu
      → WasWritten (history_of m) (record { entry = place; cpu = cpu })
  pub some_app : 0 < m.setup.apps
  pub lists : length m.writes ≡ m.setup.apps

-- The socket flow table is written by the history in the machine that a plan with an application
-- starts, and after any steps from there.
pub record EntriesAreWritten : Type 0 where
  pub start : (plan : Plan) (packets : List Packet) (cut : Option ℕ) → 0 < length plan.apps
      → SocketIsWritten (new_machine plan packets cut)
  pub later : (ss : List Step) (m : Machine) → SocketIsWritten m → SocketIsWritten (after ss m)

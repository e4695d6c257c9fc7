-- The machine of a plan in memory before its first step, and the parts that it is made of.
use Rattle.std.specs.Prelude.{ℕ, ◌≡◌, ◌+◌, [], List, Option, length, replicate}
use Rattle.accel_filter.specs.Table as table
use Rattle.sock_flow_table.specs.Sockets as sockets
use Rattle.steer_base.specs.Journals.{journal, new_journals}
use Rattle.steer_base.specs.declared.packet.Packet.{Packet}
use Rattle.plan_reader.specs.Plans.{step_count}
use Rattle.plan_reader.specs.declared.plan.Plan.{Plan}
use Rattle.steer_model.specs.State.Start.{initial_settings, new_machine, setup_of}
use Rattle.steer_model.specs.declared.note.Note.TheVariants as note
use Rattle.steer_core.specs.Running.{Running}
use Rattle.steer_core.specs.declared.actors.make.Fixed.{Fixed}
use Rattle.steer_core.specs.declared.actors.make.Lists.{Lists}
use Rattle.steer_core.specs.declared.actors.make.Tables.{Tables}

-- What is fixed and what is set is what the plan and the capture have.
pub record IsFixed (plan : Plan) (packets : List Packet) (cut : Option ℕ) (fixed : Fixed)
    : Type 0 where
  pub given : fixed.given ≡ setup_of plan packets cut
  pub settings : fixed.settings ≡ initial_settings plan

-- The tables and the notes have nothing in them, and the sizes of the plan.
pub record AreUnset (plan : Plan) (tables : Tables) : Type 0 where
  pub socket : tables.socket ≡ sockets.unset (initial_settings plan).sock
  pub filters : tables.filters ≡ table.unset plan.filters
  pub notes : tables.notes.items ≡ replicate (length plan.queues) note.Nothing

-- The lists are empty, with room for a command of each step, and for a write of each step and each
-- packet.
pub record AreEmpty (plan : Plan) (packets : List Packet) (lists : Lists) : Type 0 where
  pub arrivals : lists.of_packets.arrivals ≡ journal [] (length packets)
  pub sent : lists.of_packets.sent ≡ new_journals (length plan.apps) (length packets)
  pub writes
      : lists.of_steps.writes ≡ new_journals (length plan.apps) (step_count plan + length packets)
  pub commands : lists.of_steps.commands ≡ journal [] (step_count plan)

-- The machine of a plan in memory before its first step, with room for a command of each step and
-- for a write of each step and each packet.
abbrev pub started : Plan → List Packet → Option ℕ → Running
started plan packets cut =
    record {
      machine = new_machine plan packets cut;
      rooms = record {
        writes = step_count plan + length packets;
        commands = step_count plan;
      };
    }

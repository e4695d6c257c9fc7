-- What the wire and the controller need before they run in their threads, and what they have done.
use Rattle.std.specs.Prelude.{◌≡◌, ◌*◌, ◌<◌, ◌≤◌, List, [], length, map}
use Rattle.std.specs.List.{range_with_len}
use Rattle.steer_base.specs.Journals.{journal}
use Rattle.history.specs.declared.arrival.Arrival.{Arrival}
use Rattle.board_api.specs.Views.{BoardView}
use Rattle.plan_reader.specs.Ranges.{commands_of}
use Rattle.plan_reader.specs.declared.limits.TheConstants.{MAX_PLAN_FILTERS}
use Rattle.plan_reader.specs.declared.plan.Plan.{Plan}
use Rattle.steer_model.specs.Good.Commands.{AreGiven}
use Rattle.steer_model.specs.State.Start.{setup_of}
use Rattle.run_words.specs.Numbers.{word_count}
use Rattle.run_words.specs.declared.shared.Shared.{Shared}
use Rattle.workers.specs.Wires.{ArePushed, HasRings, KeepsRings}
use Rattle.run_crew.specs.Routes.{Ends}
use Rattle.run_controller.specs.Journals.{Attempted}
use Rattle.run_controller.specs.Settings.{first_known}
use Rattle.run_controller.specs.Stages as controllers
use Rattle.run_controller.specs.Stages.{AreSeated, IsStage}
use Rattle.run_workers.specs.Stages.{StageView, stage_view}
use Rattle.run_workers.specs.declared.stage.Stage.{Stage}
use Rattle.run_crew.specs.Sweeps.{AllWork}
use Rattle.run_crew.specs.declared.seated.Seated.{Seated}
use Rattle.workers.specs.declared.start.SeatedController.{SeatedController}
use Rattle.workers.specs.declared.start.SeatedWire.{SeatedWire}

-- What the workers share, and what the controller works at.
abbrev pub workers_stage : Stage BoardView → StageView
workers_stage s = stage_view s.rx s.tx s.shared s.late.items

abbrev pub commands_stage : Stage BoardView → controllers.Stage
commands_stage s = controllers.stage s.shared s.rx s.tx

-- The workers can run: there is one, and each keeps its records.
pub record CrewCan (t : StageView) (crew : List Seated) : Type 0 where
  pub some : 0 < length crew
  pub work : AllWork t crew

-- The wire can run: it has a seat at the words, which are enough, and has not yet given a packet to
-- its rings, which have room for all.
pub record WireCan (shared : Shared) (w : SeatedWire) : Type 0 where
  pub table : w.seat.table ≡ shared.hints.table
  pub words : shared.hints.words ≡ word_count (length shared.given.packets)
  pub filters : shared.filters ≤ MAX_PLAN_FILTERS
  pub queues : w.wire.reta.queues ≡ length shared.given.homes
  pub none : w.wire.arrivals.items ≡ []
  pub room : length shared.given.packets ≤ w.wire.arrivals.room
  pub rings : HasRings shared.given w.wire
  pub pushed : ArePushed (length shared.given.packets) w.wire

-- The wire has run: all packets arrived, each by the words that it loaded, and were given to the
-- rings of their queues.
pub record WireRan (shared : Shared) (before after : SeatedWire) : Type 0 where
  pub all : map (λ (a : Arrival). a.id) after.wire.arrivals.items
      ≡ range_with_len 0 (length shared.given.packets)
  pub ends : Ends shared.given shared.filters before.wire.reta after.wire.arrivals.items
      before.seat after.seat
  pub table : after.seat.table ≡ before.seat.table
  pub pushed : ArePushed (length shared.given.packets) after.wire
  pub rings : KeepsRings before.wire after.wire

-- The controller can run: it knows the first settings of the plan, has given no command, and is at
-- its seats, with open gates that it has not opened yet.
pub record ControllerCan (plan : Plan) (s : controllers.Stage) (c : SeatedController) : Type 0 where
  pub is_stage : IsStage s
  pub setup : s.shared.given ≡ setup_of plan s.shared.given.packets s.shared.given.cut
  pub seated : AreSeated s 0 c.seats
  pub known : c.controller.known ≡ first_known plan
  pub commands : c.controller.commands
      ≡ journal [] (length (commands_of plan.steps) * plan.tries)

-- The controller has run: it gave the commands of the plan, and its journal says all that its seats
-- did, which are outside.
pub record ControllerRan (plan : Plan) (s : controllers.Stage) (before after : SeatedController)
    : Type 0 where
  pub given : AreGiven plan.tries (commands_of plan.steps) after.controller.commands.items
  pub attempted : Attempted s [] after.controller.commands.items (first_known plan)
      after.controller.known before.seats after.seats
  pub seated : AreSeated s (length after.controller.commands.items) after.seats

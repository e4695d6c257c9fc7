-- What a run begins with, for a plan and the packets of a capture.
use Rattle.std.specs.Prelude.{◌≡◌, ℕ, ◌+◌, ◌*◌, ◌<◌, List, Option, [], Some, length}
use Rattle.std.specs.Prelude.{slice_get, slice_index_or}
use Rattle.rtrb.specs.Ring.{IsPair}
use Rattle.steer_base.specs.Journals.{journal}
use Rattle.steer_base.specs.declared.packet.Packet.{Packet}
use Rattle.board_api.specs.Views.{BoardView}
use Rattle.plan_reader.specs.Ranges.{commands_of}
use Rattle.plan_reader.specs.declared.plan.Plan.{Plan}
use Rattle.workers.specs.Wires.{ArePushed, HasRings}
use Rattle.workers.specs.Boards.{AreBoardsOf}
use Rattle.workers.specs.declared.boards.RunBoards.{RunBoards}
use Rattle.run_controller.specs.Settings.{first_known}
use Rattle.run_controller.specs.Stages.{AreSeated, stage}
use Rattle.run_crew.specs.Crews.{AreWorking, IsPlayed, pollers_of, servers_of}
use Rattle.run_crew.specs.declared.seated.Seated.{Seated}
use Rattle.run_workers.specs.Actors.{Each}
use Rattle.run_workers.specs.Stages.{stage_view}
use Rattle.run_workers.specs.declared.stage.Stage.{Stage}
use Rattle.workers.specs.Actors.{RingEnd}
use Rattle.workers.specs.Seats.{first_hint_seat, first_seats}
use Rattle.workers.specs.declared.start.Run.{Run}
use Rattle.workers.specs.declared.start.SeatedController.{SeatedController}
use Rattle.workers.specs.declared.start.SeatedWire.{SeatedWire}

-- the boards and the words of a stage
abbrev pub boards_in : Stage BoardView → RunBoards
boards_in s = record { rx = s.rx; tx = s.tx; shared = s.shared }

-- The workers are as many as the plan says, each at the seats of its number, which has made no
-- step. Together they play all actors of the plan, and keep the records of no turns. Each
-- application stands where the plan says.
pub record IsFirstCrew (plan : Plan) (s : RunBoards) (crew : List Seated) : Type 0 where
  pub count : length crew ≡ plan.workers
  pub seats : Each (λ w x. x.seats ≡ first_seats s w) crew
  pub work : AreWorking (stage_view s.rx s.tx s.shared []) crew (length plan.queues)
      (length plan.apps)
  pub homes : (a : ℕ) (p : IsPlayed crew servers_of a) → slice_get plan.apps a ≡ Some p.actor.home

-- Each receive queue's ring is that of its poller.
abbrev pub HaveRings : List RingEnd → List Seated → Type 0
HaveRings rings crew =
    (q : ℕ) → q < length rings → (p : IsPlayed crew pollers_of q) (d : RingEnd)
    → IsPair (slice_index_or rings q d) p.actor.ring

-- The wire has given nothing to its rings, which have room for all packets, and is at its seat, the
-- last one at the hint words.
pub record IsFirstWire (plan : Plan) (packets : List Packet) (s : RunBoards) (w : SeatedWire)
    : Type 0 where
  pub arrivals : w.wire.arrivals ≡ journal [] (length packets)
  pub rings : HasRings s.shared.given w.wire
  pub pushed : ArePushed (length packets) w.wire
  pub reta : w.wire.reta ≡ record { queues = length plan.queues; entries = plan.reta }
  pub seat : w.seat ≡ first_hint_seat s (plan.workers + 1)

-- The controller has given no command and knows the settings of the plan. It is at its seats, the
-- last ones of both boards.
pub record IsFirstController (plan : Plan) (s : RunBoards) (c : SeatedController) : Type 0 where
  pub known : c.controller.known ≡ first_known plan
  pub commands : c.controller.commands ≡ journal [] (length (commands_of plan.steps) * plan.tries)
  pub seats : c.seats ≡ first_seats s plan.workers
  pub seated : AreSeated (stage s.shared s.rx s.tx) 0 c.seats

-- What a run begins with. No packet has arrived.
pub record IsStart (plan : Plan) (packets : List Packet) (cut : Option ℕ) (r : Run)
    : Type 0 where
  pub boards : AreBoardsOf plan packets cut (boards_in r.stage)
  pub late : r.stage.late.items ≡ []
  pub crew : IsFirstCrew plan (boards_in r.stage) r.crew.items
  pub wire : IsFirstWire plan packets (boards_in r.stage) r.wire
  pub paired : HaveRings r.wire.wire.rings.items r.crew.items
  pub controller : IsFirstController plan (boards_in r.stage) r.controller

-- A run that is over: its threads have been taken back, and its sweep has ended.
use Rattle.std.specs.Prelude.{◌≡◌, ℕ, ◌<◌, List, [], Some, true, length, map, slice_get}
use Rattle.std.specs.Prelude.{slice_index_or}
use Rattle.std.specs.List.{range_with_len}
use Rattle.rtrb.specs.Ring.{IsPair, sent}
use Rattle.history.specs.Lists.{arrivals_at}
use Rattle.history.specs.declared.arrival.Arrival.{Arrival}
use Rattle.plan_reader.specs.Ranges.{commands_of}
use Rattle.steer_model.specs.Good.Commands.{AreGiven}
use Rattle.steer_model.specs.Good.Inputs.{Input, setup_in}
use Rattle.steer_model.specs.State.Ranges.{AreOfFlows}
use Rattle.run_crew.specs.Routes.{Ends}
use Rattle.run_words.specs.HintViews.{HintView}
use Rattle.run_words.specs.declared.seats.Seats.{Seats}
use Rattle.workers.specs.declared.wire.Wire.{Wire}
use Rattle.workers.specs.Boards.{AreBoardsOf}
use Rattle.workers.specs.declared.boards.RunBoards.{RunBoards}
use Rattle.run_controller.specs.Journals.{Attempted}
use Rattle.run_controller.specs.Settings.{KnownSettings, first_known}
use Rattle.run_controller.specs.Stages.{AreSeated, stage}
use Rattle.run_workers.specs.Stages.{StageView, stage_view}
use Rattle.run_crew.specs.CountLaws.{IsFull}
use Rattle.run_crew.specs.Crews.{AreWorking, IsPlayed, pollers_of, servers_of}
use Rattle.run_crew.specs.Sweeps.{all_free}
use Rattle.run_crew.specs.declared.seated.Seated.{Seated}
use Rattle.workers.specs.declared.start.Run.{Run}

-- What the threads of a run share, with all arrivals that are known.
abbrev pub stage_of : Run → StageView
stage_of s = stage_view s.stage.rx s.stage.tx s.stage.shared s.stage.late.items

-- The boards of a run and the words that its threads share.
abbrev pub boards_of : Run → RunBoards
boards_of s = record { rx = s.stage.rx; tx = s.stage.tx; shared = s.stage.shared }

-- Each application has the home that the plan gives it.
abbrev pub AreAtHome : List ℕ → List Seated → Type 0
AreAtHome homes crew =
    (a : ℕ) → a < length homes → (p : IsPlayed crew servers_of a)
    → slice_get homes a ≡ Some p.actor.home

-- Each poller has the other end of the ring of its queue.
abbrev pub ArePaired : Wire → List Seated → ℕ → Type 0
ArePaired wire crew queues =
    (q : ℕ) (d : _) → q < queues → (p : IsPlayed crew pollers_of q)
    → IsPair (slice_index_or wire.rings.items q d) p.actor.ring

-- The wire is over: with these arrivals all packets arrived, each by the words that its seat
-- loaded, and each ring was given just the packets that arrived at its queue, in order.
pub record WireIsOver (i : Input) (s : Run) (arrivals : List Arrival) : Type 0 where
  pub all : map (λ (a : Arrival). a.id) arrivals ≡ range_with_len 0 (length i.packets)
  pub old : HintView
  pub fresh : old.steps ≡ []
  pub ends : Ends (setup_in i) i.plan.filters
      (record { queues = length i.plan.queues; entries = i.plan.reta }) arrivals old s.wire.seat
  pub table : s.wire.seat.table ≡ s.stage.shared.hints.table
  pub count : length s.wire.wire.rings.items ≡ length i.plan.queues
  pub sent_are : (q : ℕ) (d : _) → q < length i.plan.queues
      → sent (slice_index_or s.wire.wire.rings.items q d) ≡ arrivals_at arrivals q
  pub paired : ArePaired s.wire.wire s.crew.items (length i.plan.queues)

-- The controller is over: it gave the commands of the plan, and what its journal says of them is
-- all that its seats did, which are outside.
pub record ControllerIsOver (i : Input) (s : Run) : Type 0 where
  pub given : AreGiven i.plan.tries (commands_of i.plan.steps)
      s.controller.controller.commands.items
  pub old : Seats
  pub rx_fresh : old.rx.steps ≡ []
  pub tx_fresh : old.tx.steps ≡ []
  pub hint_fresh : old.hint.steps ≡ []
  pub last : KnownSettings
  pub attempted : Attempted (stage s.stage.shared s.stage.rx s.stage.tx) []
      s.controller.controller.commands.items (first_known i.plan) last old s.controller.seats
  pub most : ℕ
  pub seated : AreSeated (stage s.stage.shared s.stage.rx s.stage.tx) most s.controller.seats

-- The threads of a run have been taken back: they kept their records, with these arrivals.
pub record IsBack (i : Input) (s : Run) (arrivals : List Arrival) : Type 0 where
  pub boards : AreBoardsOf i.plan i.packets i.cut (boards_of s)
  pub flows : AreOfFlows i.packets
  pub count : length s.crew.items ≡ i.plan.workers
  pub work : AreWorking (stage_of s) s.crew.items (length i.plan.queues) (length i.plan.apps)
  pub homes : AreAtHome i.plan.apps s.crew.items
  pub wire : WireIsOver i s arrivals
  pub controller : ControllerIsOver i s

-- A run of this input is over: its threads are back, all workers know all arrivals and have no
-- packet in hand, and each packet is on the port or was dropped.
pub record IsOver (i : Input) (s : Run) : Type 0 where
  pub back : IsBack i s s.stage.late.items
  pub free : all_free s.crew.items ≡ true
  pub full : IsFull s.crew.items (length i.plan.queues) s.stage.tx.sizes.lanes (length i.packets)

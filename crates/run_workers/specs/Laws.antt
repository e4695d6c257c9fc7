-- Laws on what a worker keeps: how it begins, when all arrivals are known, and where it stands when
-- its hands are empty.
use Rattle.std.specs.Prelude.{◌≡◌, ℕ, ◌<◌, true, false, List, [], None, length}
use Rattle.rtrb.specs.Ring.{received}
use Rattle.steer_base.specs.Counters.{rounded_up}
use Rattle.dev_flow_table.specs.Tables.{cleared}
use Rattle.history.specs.declared.arrival.Arrival.{Arrival}
use Rattle.board_api.specs.Calls.Rights.{Pulls}
use Rattle.board_api.specs.Closings.Closings.{IsAtRest}
use Rattle.board_api.specs.Views.{BoardView}
use Rattle.hop_rule.specs.declared.sizes.BoardSizes.{BoardSizes}
use Rattle.run_words.specs.Values.{flows_in}
use Rattle.steer_model.specs.State.Setup.{Setup}
use Rattle.run_workers.specs.Hands.Drains.{IsDrain}
use Rattle.run_workers.specs.Hands.Pollers.{IsPoller}
use Rattle.run_workers.specs.Hands.Servers.{HasFlowsBelow, IsServer}
use Rattle.run_workers.specs.declared.drain.Drain.{Drain}
use Rattle.run_workers.specs.declared.drain.Exit.{Exit}
use Rattle.run_workers.specs.declared.drain.Exit.TheVariants.{Inboxes, Port}
use Rattle.run_workers.specs.declared.poller.Poller.{Poller}
use Rattle.run_workers.specs.declared.server.Server.{Server}
use Rattle.run_words.specs.declared.shared.Shared.{Shared}
use Rattle.run_workers.specs.Actors.{Each, actor_at}
use Rattle.run_workers.specs.Stages.{HasSizes, StageView, stage_view}
use Rattle.run_workers.specs.Workers.{IsWorking, is_free}
use Rattle.run_words.specs.declared.seats.Seats.{Seats}
use Rattle.run_workers.specs.declared.worker.Worker.{Worker}

-- ---- the beginning

-- A poller of the worker's own, as it was made for this flow word and an empty ring.
pub record IsNewPoller (t : StageView) (number : ℕ) (first : ℕ → ℕ) (k : ℕ) (p : Poller)
    : Type 0 where
  pub own : p.queue ≡ actor_at t.rx.sizes number k
  pub within : p.queue < length t.shared.given.homes
  pub room : p.choices.room ≡ t.rx.sizes.room
  pub is : IsPoller t.shared.given.cpus p
  pub hand : p.hand ≡ None
  pub flows : p.flows ≡ first p.queue
  pub choices : p.choices.items ≡ []
  pub accepted : p.accepted ≡ 0
  pub table : p.table ≡ cleared (rounded_up (flows_in (first p.queue))) t.rx.sizes.start false
  pub ring : received p.ring ≡ []
  pub kept : p.kept ≡ None

-- A drain of the worker's own, as it was made.
pub record IsNewDrain (about : BoardSizes) (given : Setup) (exit : Exit) (number k : ℕ)
    (d : Drain) : Type 0 where
  pub own : d.lane ≡ actor_at about number k
  pub within : d.lane < about.lanes
  pub mine : Pulls about number d.lane
  pub exit_is : d.exit ≡ exit
  pub start : d.start ≡ about.start
  pub is : IsDrain given d []

-- An application of the worker's own, as it was made.
pub record IsNewServer (t : StageView) (number rows k : ℕ) (v : Server) : Type 0 where
  pub own : v.app ≡ actor_at t.tx.sizes number k
  pub within : v.app < t.rx.sizes.outs
  pub room : v.sent.room ≡ t.rx.sizes.room
  pub start : v.start ≡ t.rx.sizes.start
  pub is : IsServer t.shared.given v
  pub hand : v.hand ≡ None
  pub table : v.table ≡ cleared rows t.tx.sizes.start true
  pub sent : v.sent.items ≡ []
  pub choices : v.choices.items ≡ []
  pub writes : v.writes.items ≡ []
  pub kept : v.kept.visit ≡ None

-- A worker of new actors, at seats that have made no step.
pub record IsNew (t : StageView) (w : Worker) (s : Seats) : Type 0 where
  pub sizes : HasSizes t
  pub rx_table : s.rx.table ≡ t.rx.table
  pub tx_table : s.tx.table ≡ t.tx.table
  pub hint_table : s.hint.table ≡ t.shared.hints.table
  pub rx_steps : s.rx.steps ≡ []
  pub tx_steps : s.tx.steps ≡ []
  pub hint_steps : s.hint.steps ≡ []
  pub first : ℕ → ℕ
  pub rows : ℕ
  pub flows : HasFlowsBelow t.shared.given t.rx.sizes.room rows
  pub pollers : Each (IsNewPoller t s.rx.number first) w.pollers.items
  pub drains : Each (IsNewDrain t.rx.sizes t.shared.given Inboxes s.rx.number) w.drains.items
  pub servers : Each (IsNewServer t s.tx.number rows) w.servers.items
  pub ships : Each (IsNewDrain t.tx.sizes t.shared.given Port s.tx.number) w.ships.items

-- A new worker keeps the records of no turns.
abbrev pub WorkersBegin : Type 0
WorkersBegin = (t : StageView) (w : Worker) (s : Seats) → IsNew t w s → IsWorking t w s

-- ---- the arrivals

-- What a worker kept before the arrivals were known, it keeps with all of them.
abbrev pub ArrivalsBecomeKnown : Type 0
ArrivalsBecomeKnown =
    (rx tx : BoardView) (shared : Shared) (arrivals : List Arrival) (w : Worker)
    (s : Seats) → IsWorking (stage_view rx tx shared []) w s
    → IsWorking (stage_view rx tx shared arrivals) w s

-- ---- the end

-- A worker with no packet in a hand leaves its seats as the closing of a board asks for: outside,
-- with no lane held and no packet in hand.
abbrev pub FreeWorkersRest : Type 0
FreeWorkersRest =
    (t : StageView) (w : Worker) (s : Seats) → IsWorking t w s → is_free w ≡ true
    → IsAtRest t.rx.sizes s.rx.steps × IsAtRest t.tx.sizes s.tx.steps

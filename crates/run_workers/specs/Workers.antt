-- What a worker keeps of its seats and of its actors. Lists of turns and of steps have the newest
-- first.
use Rattle.std.specs.Prelude.{◌≡◌, ◌≤◌, ℕ, Bool, ◌&&◌, List, Some, None, All, length, slice_get}
use Rattle.std.specs.List.{list_all}
use Rattle.std.specs.Option.{is_none}
use Rattle.rtrb.specs.Ring.{SameConsumer}
use Rattle.linearization.specs.Orders.{StepBy}
use Rattle.hop_rule.specs.Boards.{lane_steps}
use Rattle.hop_rule.specs.Lanes.{holding, idle, out_holding, phase}
use Rattle.board_api.specs.Calls.Rights.{HasOpen, IsOutside}
use Rattle.board_api.specs.Seats.{BoardSeatView}
use Rattle.board_api.specs.Views.{BoardView}
use Rattle.hop_delivery.specs.Orders.Turns.{Explained, Turn}
use Rattle.run_workers.specs.Hands.Servers.{HasFlowsBelow}
use Rattle.run_workers.specs.declared.drain.Drain.{Drain}
use Rattle.run_workers.specs.declared.drain.Exit.TheVariants.{Inboxes, Port}
use Rattle.run_workers.specs.declared.poller.Poller.{Poller}
use Rattle.run_workers.specs.declared.server.Server.{Server}
use Rattle.run_workers.specs.Records.Growth.{Grows}
use Rattle.run_workers.specs.Records.Storing.{StoresAreFor}
use Rattle.run_workers.specs.Records.Words.{Mark, Note}
use Rattle.run_workers.specs.Actors.{Each, IsForeign, IsTurnOfOne, KeepsDrain, KeepsPoller}
use Rattle.run_workers.specs.Actors.{KeepsServer}
use Rattle.run_workers.specs.Stages.{HasSizes, StageView}
use Rattle.run_workers.specs.Tally.{dropped_by}
use Rattle.run_words.specs.declared.seats.Seats.{Seats}
use Rattle.run_workers.specs.declared.worker.Worker.{Worker}

-- Between the calls of its actors a seat of this board is outside its gate, has not closed it, and
-- holds no lane. Of the lanes that it does not serve it has nothing in hand.
pub record IsBetween (board : BoardView) (count : ℕ) (seat : BoardSeatView) : Type 0 where
  pub table : seat.table ≡ board.table
  pub outside : IsOutside seat.steps
  pub gate : HasOpen seat.steps
  pub lanes : (l : ℕ) → holding l (lane_steps seat.steps) ≡ None
  pub outs : (o : ℕ) → out_holding o (lane_steps seat.steps) ≡ None
  pub others : (l : ℕ) → IsForeign board.sizes seat.number count l
      → phase l (lane_steps seat.steps) ≡ idle

-- What a worker keeps. Its lists at the boards are explained by turns, which are all of its own
-- queues and applications, and each of its actors has its record over these turns and over the
-- steps of its seats. What it stored at the hint words was the filter of a turn, the mark of a
-- packet that one of its pollers steered, or what one of its applications noted.
pub record IsWorking (t : StageView) (w : Worker) (s : Seats) : Type 0 where
  pub sizes : HasSizes t
  pub rx : IsBetween t.rx (length w.drains.items) s.rx
  pub tx : IsBetween t.tx (length w.ships.items) s.tx
  pub hint_table : s.hint.table ≡ t.shared.hints.table
  pub first : ℕ → ℕ
  pub rows : ℕ
  pub flows : HasFlowsBelow t.shared.given t.rx.sizes.room rows
  pub turns : List (StepBy Turn)
  pub steered : Explained s.rx.steps turns
  pub by_pollers : All (IsTurnOfOne t.rx.sizes s.rx.number (length w.pollers.items)) turns
  pub marks : List (StepBy Mark)
  pub marked_by : All (IsTurnOfOne t.rx.sizes s.rx.number (length w.pollers.items)) marks
  pub replies : List (StepBy Turn)
  pub replied : Explained s.tx.steps replies
  pub by_servers : All (IsTurnOfOne t.tx.sizes s.tx.number (length w.servers.items)) replies
  pub noted : List (StepBy Note)
  pub noted_by : All (IsTurnOfOne t.tx.sizes s.tx.number (length w.servers.items)) noted
  pub stores : StoresAreFor t.shared.given t.shared.filters turns marks noted s.hint.steps
  pub pollers : Each (KeepsPoller t s first turns marks) w.pollers.items
  pub drains : Each (KeepsDrain t.rx.sizes t.shared.given Inboxes s.rx) w.drains.items
  pub servers : Each (KeepsServer t s rows replies noted) w.servers.items
  pub ships : Each (KeepsDrain t.tx.sizes t.shared.given Port s.tx) w.ships.items

-- ---- what stays

-- The rings of the pollers are those that they had.
abbrev pub HasRings : List Poller → List Poller → Type 0
HasRings before after =
    Each (λ k q. (p : Poller) → slice_get before k ≡ Some p → SameConsumer p.ring q.ring) after

-- No poller has fewer drops than it had.
abbrev pub HasDrops : List Poller → List Poller → Type 0
HasDrops before after =
    Each (λ k q. (p : Poller) → slice_get before k ≡ Some p → dropped_by p ≤ dropped_by q) after

-- The applications have the homes that they had.
abbrev pub HasHomes : List Server → List Server → Type 0
HasHomes before after =
    Each (λ k u. (v : Server) → slice_get before k ≡ Some v → u.home ≡ v.home) after

-- A worker has as many actors of each kind as before, with the same rings and homes and no fewer
-- drops, and its seats are the same seats, with more steps.
pub record IsSame (before after : Worker) (old new : Seats) : Type 0 where
  pub pollers : length after.pollers.items ≡ length before.pollers.items
  pub drains : length after.drains.items ≡ length before.drains.items
  pub servers : length after.servers.items ≡ length before.servers.items
  pub ships : length after.ships.items ≡ length before.ships.items
  pub rings : HasRings before.pollers.items after.pollers.items
  pub drops : HasDrops before.pollers.items after.pollers.items
  pub homes : HasHomes before.servers.items after.servers.items
  pub rx_table : new.rx.table ≡ old.rx.table
  pub rx_number : new.rx.number ≡ old.rx.number
  pub tx_table : new.tx.table ≡ old.tx.table
  pub tx_number : new.tx.number ≡ old.tx.number
  pub hint_table : new.hint.table ≡ old.hint.table
  pub rx_steps : Grows old.rx.steps new.rx.steps
  pub tx_steps : Grows old.tx.steps new.tx.steps
  pub hint_steps : Grows old.hint.steps new.hint.steps

-- A worker went on: it keeps its records, and is the same.
pub record GoesOn (t : StageView) (before after : Worker) (old new : Seats) : Type 0 where
  pub is : IsWorking t after new
  pub same : IsSame before after old new

-- ---- hands

-- whether none of these pollers has a packet in hand
abbrev pub pollers_are_free : List Poller → Bool
pollers_are_free pollers = list_all (λ (p : Poller). is_none p.hand) pollers

-- whether none of these drains has
abbrev pub drains_are_free : List Drain → Bool
drains_are_free drains = list_all (λ (d : Drain). is_none d.hand) drains

-- whether none of these applications has
abbrev pub servers_are_free : List Server → Bool
servers_are_free servers = list_all (λ (v : Server). is_none v.hand) servers

-- whether no actor of a worker has
abbrev pub is_free : Worker → Bool
is_free w =
    pollers_are_free w.pollers.items
    && (drains_are_free w.drains.items
    && (servers_are_free w.servers.items && drains_are_free w.ships.items))

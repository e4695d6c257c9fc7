-- What a worker keeps of each of its actors.
use Rattle.std.specs.Prelude.{◌≡◌, ◌≢◌, ℕ, ◌+◌, ◌-◌, ◌*◌, ◌<◌, max, List, Some, length, slice_get}
use Rattle.linearization.specs.Orders.{StepBy}
use Rattle.hop_rule.specs.declared.sizes.BoardSizes.{BoardSizes}
use Rattle.board_api.specs.Calls.Rights.{Pulls}
use Rattle.board_api.specs.Seats.{BoardSeatView}
use Rattle.hop_delivery.specs.Orders.Turns.{Turn}
use Rattle.steer_model.specs.State.Setup.{Setup}
use Rattle.run_workers.specs.Hands.Drains.{IsDrain}
use Rattle.run_workers.specs.Hands.Pollers.{IsPoller, KeepsReading}
use Rattle.run_workers.specs.Hands.Servers.{IsServer, KeepsMaps}
use Rattle.run_workers.specs.declared.drain.Drain.{Drain}
use Rattle.run_workers.specs.declared.drain.Exit.{Exit}
use Rattle.run_workers.specs.declared.poller.Poller.{Poller}
use Rattle.run_workers.specs.declared.server.Server.{Server}
use Rattle.run_workers.specs.Records.Polling.{IsPolling}
use Rattle.run_workers.specs.Records.Replying.{IsReplying}
use Rattle.run_workers.specs.Records.Words.{Mark, Note}
use Rattle.run_workers.specs.Stages.{StageView}
use Rattle.run_words.specs.declared.seats.Seats.{Seats}

-- Each item of a list is so at its index.
abbrev pub Each : {A : Type 0} → (ℕ → A → Type 0) → List A → Type 0
Each {A} Is xs = (k : ℕ) (x : A) → slice_get xs k ≡ Some x → Is k x

-- The actor that a seat's worker plays at index k of its kind: of so many workers each plays every
-- so-manieth one, from that of its own number on. The last seat is no worker's.
abbrev pub actor_at : BoardSizes → ℕ → ℕ → ℕ
actor_at about number k = number + max 1 (about.seats - 1) * k

-- The turn, mark or note is of one of the first so many actors of a seat.
abbrev pub IsTurnOfOne : {A : Type 0} → BoardSizes → ℕ → ℕ → StepBy A → Type 0
IsTurnOfOne {A} about number count e =
    (k : ℕ) × (k < count) × (e.by ≡ actor_at about number k)

-- The lane is none of the first so many that a seat serves.
abbrev pub IsForeign : BoardSizes → (number count lane : ℕ) → Type 0
IsForeign about number count lane = (k : ℕ) → k < count → lane ≢ actor_at about number k

-- A poller has its own queue, room for all packets, its record over the turns of its seat, and what
-- its seat read of the settings, if it has kept them. `first` has the flow word of each queue at
-- the start.
pub record KeepsPoller (t : StageView) (s : Seats) (first : ℕ → ℕ)
    (turns : List (StepBy Turn)) (marks : List (StepBy Mark)) (k : ℕ) (p : Poller) : Type 0 where
  pub own : p.queue ≡ actor_at t.rx.sizes s.rx.number k
  pub within : p.queue < length t.shared.given.homes
  pub room : p.choices.room ≡ t.rx.sizes.room
  pub is : IsPoller t.shared.given.cpus p
  pub kept : KeepsReading (length t.shared.given.homes) p s.rx.steps
  pub keeps : IsPolling t.shared.given (first p.queue) t.rx.sizes.start p turns marks s.rx.steps
      s.hint.steps

-- A drain has its own lane, from which its seat may pull, and this exit, counts from the number at
-- which the counters of the board start, and has its record over the steps of its seat.
pub record KeepsDrain (about : BoardSizes) (given : Setup) (exit : Exit) (seat : BoardSeatView)
    (k : ℕ) (d : Drain) : Type 0 where
  pub own : d.lane ≡ actor_at about seat.number k
  pub within : d.lane < about.lanes
  pub mine : Pulls about seat.number d.lane
  pub exit_is : d.exit ≡ exit
  pub start : d.start ≡ about.start
  pub is : IsDrain given d seat.steps

-- An application is one of its worker's own, has room for all packets, counts from the number at
-- which the counters of the receive board start, whose out lanes the inboxes are, keeps maps that
-- its seat read at the transmit board, and has its record over the turns of its seat there. `rows`
-- is the number of classes of its flow table.
pub record KeepsServer (t : StageView) (s : Seats) (rows : ℕ)
    (replies : List (StepBy Turn)) (noted : List (StepBy Note)) (k : ℕ) (v : Server)
    : Type 0 where
  pub own : v.app ≡ actor_at t.tx.sizes s.tx.number k
  pub within : v.app < t.rx.sizes.outs
  pub room : v.sent.room ≡ t.rx.sizes.room
  pub start : v.start ≡ t.rx.sizes.start
  pub is : IsServer t.shared.given v
  pub maps : KeepsMaps t.shared.given v.kept s.tx.steps
  pub keeps : IsReplying t.shared.given rows t.tx.sizes.start t.late v replies noted s.rx.steps
      s.tx.steps s.hint.steps

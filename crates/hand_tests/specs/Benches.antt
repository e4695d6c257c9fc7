-- The seats of a test board between calls: two workers, a visitor and a closer.
use Rattle.std.specs.Prelude.{◌≡◌, ◌≤◌, ◌<◌, ℕ, Bool, false, None, [], length}
use Rattle.linearization.specs.Seats.{SeatView}
use Rattle.hint_words.specs.declared.step.HintStep.{HintStep}
use Rattle.hop_rule.specs.Boards.{gate_steps, lane_steps}
use Rattle.hop_rule.specs.Gates.{openings}
use Rattle.hop_rule.specs.Lanes.{holding, idle, out_holding, phase}
use Rattle.hop_rule.specs.declared.sizes.BoardSizes.{BoardSizes}
use Rattle.board_api.specs.Calls.Rights.{HasOpen, IsOutside}
use Rattle.board_api.specs.Seats.{BoardSeatView}
use Rattle.board_api.specs.Views.{BoardView}
use Rattle.run_words.specs.Numbers.{word_count}
use Rattle.run_workers.specs.Hands.Deltas.{no_lane, this_lane}
use Rattle.run_workers.specs.Hands.Drains.{IsDrain}
use Rattle.run_workers.specs.Hands.Pollers.{IsPoller, KeepsReading}
use Rattle.run_workers.specs.declared.drain.Drain.{Drain}
use Rattle.run_workers.specs.declared.drain.Exit.TheVariants.{Inboxes}
use Rattle.run_workers.specs.declared.poller.Poller.{Poller}
use Rattle.run_words.specs.declared.shared.Shared.{Shared}

-- The seat of a board has made no step.
pub record IsFresh (board : BoardView) (number : ℕ) (seat : BoardSeatView) : Type 0 where
  pub table : seat.table ≡ board.table
  pub number_is : seat.number ≡ number
  pub steps : seat.steps ≡ []

-- The seat is outside, has not closed the gate, holds no lane, and has no packet in hand of a lane
-- that is not its own.
pub record RestsBut (own : ℕ → Bool) (board : BoardView) (number : ℕ) (seat : BoardSeatView)
    : Type 0 where
  pub table : seat.table ≡ board.table
  pub number_is : seat.number ≡ number
  pub outside : IsOutside seat.steps
  pub gate : HasOpen seat.steps
  pub lanes : (l : ℕ) → holding l (lane_steps seat.steps) ≡ None
  pub outs : (o : ℕ) → out_holding o (lane_steps seat.steps) ≡ None
  pub hands : (l : ℕ) → own l ≡ false → phase l (lane_steps seat.steps) ≡ idle

-- The seat rests, with no packet in hand.
abbrev pub Rests : BoardView → ℕ → BoardSeatView → Type 0
Rests board number seat = RestsBut no_lane board number seat

-- The seat rests, whatever its number.
abbrev pub IsDone : BoardView → BoardSeatView → Type 0
IsDone board seat = Rests board seat.number seat

-- The number of times that the seat has opened the gate.
abbrev pub opened_by : BoardSeatView → ℕ
opened_by seat = openings (gate_steps seat.steps)

-- A receive board of two lanes, two inboxes and four seats, for two receive queues.
pub record IsBench (about : BoardSizes) (shared : Shared) : Type 0 where
  pub words : word_count about.room ≤ shared.hints.words
  pub filters : shared.filters ≡ 8
  pub queues : length shared.given.homes ≡ 2
  pub settings : length about.settings ≡ 6
  pub cpus : about.lanes ≡ shared.given.cpus
  pub lanes : about.lanes ≡ 2
  pub outs : shared.given.apps ≤ about.outs
  pub inboxes : about.outs ≡ 2
  pub seats : about.seats ≡ 4

-- The seat polls a queue and empties the lane of the queue's number into the inboxes, and is
-- between two calls.
pub record IsWorker (board : BoardView) (shared : Shared) (hand : Poller) (drain : Drain)
    (seat : BoardSeatView) (hint : SeatView HintStep) : Type 0 where
  pub bench : IsBench board.sizes shared
  pub within : drain.lane < 2
  pub hint_table : hint.table ≡ shared.hints.table
  pub queue : hand.queue ≡ drain.lane
  pub room : hand.choices.room ≡ board.sizes.room
  pub poller : IsPoller shared.given.cpus hand
  pub kept : KeepsReading (length shared.given.homes) hand seat.steps
  pub exit : drain.exit ≡ Inboxes
  pub drain_is : IsDrain shared.given drain seat.steps
  pub rests : RestsBut (this_lane drain.lane) board drain.lane seat

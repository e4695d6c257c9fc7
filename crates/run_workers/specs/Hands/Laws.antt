-- Laws that carry what one actor keeps of a seat's list over the steps of another actor.
use Rattle.std.specs.Prelude.{◌≡◌, ℕ, Bool, false, List, ◌∷◌, ◌++◌}
use Rattle.linearization.specs.Orders.{StepBy, step_by}
use Rattle.linearization.specs.Seats.{SeatView}
use Rattle.dev_flow_table.specs.Tables.{Table}
use Rattle.history.specs.declared.arrival.Arrival.{Arrival}
use Rattle.history.specs.declared.sent.Sent.{Sent}
use Rattle.hint_words.specs.declared.step.HintStep.{HintStep}
use Rattle.hop_rule.specs.declared.sizes.BoardSizes.{BoardSizes}
use Rattle.hop_rule.specs.declared.step.BoardStep.{BoardStep}
use Rattle.board_api.specs.Seats.{BoardSeatView}
use Rattle.hop_delivery.specs.Orders.Turns.{Explained, Turn}
use Rattle.steer_model.specs.State.Setup.{Setup}
use Rattle.run_workers.specs.Hands.Deltas.{LeavesLane, Serves}
use Rattle.run_workers.specs.Hands.Drains.{IsDrain}
use Rattle.run_workers.specs.Hands.Pollers.{Polls, Visits}
use Rattle.run_workers.specs.Hands.Servers.{KeepsHand, Replies, RepliesOrKeeps, TakesOrLeaves}
use Rattle.run_workers.specs.declared.drain.Drain.{Drain}
use Rattle.run_workers.specs.declared.poller.Poller.{Poller}
use Rattle.run_workers.specs.declared.server.Server.{Server}

-- Steps that serve another lane, or none, leave a drain's record.
abbrev pub DrainsStay : Type 0
DrainsStay =
    (given : Setup) (d : Drain) (added own : List BoardStep) → LeavesLane d.lane added
    → IsDrain given d own → IsDrain given d (added ++ own)

-- A call that serves other lanes leaves a drain's record.
abbrev pub ServesLeaveDrains : Type 0
ServesLeaveDrains =
    (given : Setup) (d : Drain) (served : ℕ → Bool) (old new : BoardSeatView)
    → Serves served old new → served d.lane ≡ false → IsDrain given d old.steps
    → IsDrain given d new.steps

-- A poll leaves a drain's record.
abbrev pub PollsLeaveDrains : Type 0
PollsLeaveDrains =
    (given : Setup) (d : Drain) (filters : ℕ) (p q : Poller) (old new : BoardSeatView)
    (hint_old hint_new : SeatView HintStep)
    → Polls given filters p q old new hint_old hint_new → IsDrain given d old.steps
    → IsDrain given d new.steps

-- A call of an application leaves a drain's record, whether it takes a packet or none, and replies
-- or not.
pub record ApplicationsLeaveDrains : Type 0 where
  pub takes : (about : BoardSizes) (given : Setup) (d : Drain) (s t : Server) (took : Bool)
      (old new : BoardSeatView) (hint_old hint_new : SeatView HintStep)
      → TakesOrLeaves about given s t old new hint_old hint_new took → IsDrain given d old.steps
      → IsDrain given d new.steps
  pub replies : (given : Setup) (late : List Arrival) (d : Drain) (s t : Server) (sent : Bool)
      (old new : BoardSeatView) (hint_old hint_new : SeatView HintStep)
      → RepliesOrKeeps given late s t old new hint_old hint_new sent → IsDrain given d old.steps
      → IsDrain given d new.steps

-- Turns that explain a seat's list explain it after steps that serve lanes.
abbrev pub ServesExplain : Type 0
ServesExplain =
    (served : ℕ → Bool) (old new : BoardSeatView) → Serves served old new
    → (ts : List (StepBy Turn)) → Explained old.steps ts → Explained new.steps ts

-- Turns that explain a seat's list, and the turn of a visit of queue q, explain it after the visit.
abbrev pub VisitsExplain : Type 0
VisitsExplain =
    (given : Setup) (filters q flows seen : ℕ) (before after : Table) (count_old count_new : ℕ)
    (turn : Turn) (old new : BoardSeatView) (hint_old hint_new : SeatView HintStep)
    → Visits given filters q flows seen before after count_old count_new turn old new hint_old
    hint_new
    → (ts : List (StepBy Turn)) → Explained old.steps ts
    → Explained new.steps (step_by q turn ∷ ts)

-- Turns that explain a seat's list explain it after an application's call that puts nothing, and
-- with the turn of a reply, of application a, after the reply.
pub record ApplicationsExplain : Type 0 where
  pub takes : (about : BoardSizes) (given : Setup) (s t : Server) (took : Bool)
      (old new : BoardSeatView) (hint_old hint_new : SeatView HintStep)
      → TakesOrLeaves about given s t old new hint_old hint_new took
      → (ts : List (StepBy Turn)) → Explained old.steps ts → Explained new.steps ts
  pub keeps : (queues : ℕ) (late : List Arrival) (s t : Server) (old new : BoardSeatView)
      (hint_old hint_new : SeatView HintStep)
      → KeepsHand queues late s t old new hint_old hint_new
      → (ts : List (StepBy Turn)) → Explained old.steps ts → Explained new.steps ts
  pub replies : (given : Setup) (a home : ℕ) (sent : Sent) (before after : Table) (turn : Turn)
      (old new : BoardSeatView) (hint_old hint_new : SeatView HintStep)
      → Replies given a home sent before after turn old new hint_old hint_new
      → (ts : List (StepBy Turn)) → Explained old.steps ts
      → Explained new.steps (step_by a turn ∷ ts)

-- What a poll leaves as it was: the queue, the room for choices, and the tables and numbers of the
-- seats.
pub record Stays (p q : Poller) (old new : BoardSeatView) (hint_old hint_new : SeatView HintStep)
    : Type 0 where
  pub queue : q.queue ≡ p.queue
  pub room : q.choices.room ≡ p.choices.room
  pub table : new.table ≡ old.table
  pub number : new.number ≡ old.number
  pub hint_table : hint_new.table ≡ hint_old.table

-- Each poll leaves these.
abbrev pub PollsStay : Type 0
PollsStay =
    (given : Setup) (filters : ℕ) (p q : Poller) (old new : BoardSeatView)
    (hint_old hint_new : SeatView HintStep)
    → Polls given filters p q old new hint_old hint_new
    → Stays p q old new hint_old hint_new

-- What a call of an application leaves as it was: which it is and its home, the number from which
-- it counts, the room for replies, and the tables and numbers of the seats.
pub record StaysApplication (s t : Server) (old new : BoardSeatView)
    (hint_old hint_new : SeatView HintStep) : Type 0 where
  pub app : t.app ≡ s.app
  pub home : t.home ≡ s.home
  pub start : t.start ≡ s.start
  pub room : t.sent.room ≡ s.sent.room
  pub table : new.table ≡ old.table
  pub number : new.number ≡ old.number
  pub hint_table : hint_new.table ≡ hint_old.table

-- Each call of an application leaves these, and a taking its maps.
pub record ApplicationsStay : Type 0 where
  pub takes : (about : BoardSizes) (given : Setup) (s t : Server) (took : Bool)
      (old new : BoardSeatView) (hint_old hint_new : SeatView HintStep)
      → TakesOrLeaves about given s t old new hint_old hint_new took
      → StaysApplication s t old new hint_old hint_new
  pub replies : (given : Setup) (late : List Arrival) (s t : Server) (sent : Bool)
      (old new : BoardSeatView) (hint_old hint_new : SeatView HintStep)
      → RepliesOrKeeps given late s t old new hint_old hint_new sent
      → StaysApplication s t old new hint_old hint_new
  pub maps : (about : BoardSizes) (given : Setup) (s t : Server) (took : Bool)
      (old new : BoardSeatView) (hint_old hint_new : SeatView HintStep)
      → TakesOrLeaves about given s t old new hint_old hint_new took → t.kept ≡ s.kept

-- What the threads of a run leave when its boards and words are closed.
use Rattle.std.specs.Prelude.{◌≡◌, ℕ, ◌++◌, List, [], ◌∷◌, Option, length, map}
use Rattle.std.specs.List.{filter_map, range_with_len}
use Rattle.linearization.specs.Seats.{SeatView}
use Rattle.hint_words.specs.Closings.{HaveEnded}
use Rattle.hint_words.specs.declared.step.HintStep.{HintStep}
use Rattle.history.specs.Lists.{list_at}
use Rattle.history.specs.declared.history.History.{History}
use Rattle.board_api.specs.Closings.Closings.{HasEnded}
use Rattle.board_api.specs.Seats.{BoardSeatView}
use Rattle.run_workers.specs.declared.poller.Poller.{Poller}
use Rattle.run_workers.specs.declared.server.Server.{Server}
use Rattle.run_crew.specs.CountLaws.{played}
use Rattle.run_crew.specs.Crews.{pollers_of, servers_of}
use Rattle.run_crew.specs.declared.seated.Seated.{Seated}
use Rattle.workers.specs.declared.start.Run.{Run}
use Rattle.workers.specs.Lists.{AreReceived}
use Rattle.workers.specs.declared.closing.Left.{Left}

-- All seats of a run at the receive board, at the transmit board and at the hint words: those of
-- the workers, then the controller's, and at the words the wire's.
abbrev pub rx_seats : Run → List BoardSeatView
rx_seats s =
    map (λ (x : Seated). x.seats.rx) s.crew.items ++ s.controller.seats.rx ∷ []

abbrev pub tx_seats : Run → List BoardSeatView
tx_seats s =
    map (λ (x : Seated). x.seats.tx) s.crew.items ++ s.controller.seats.tx ∷ []

abbrev pub hint_seats : Run → List (SeatView HintStep)
hint_seats s =
    map (λ (x : Seated). x.seats.hint) s.crew.items
    ++ s.controller.seats.hint ∷ s.wire.seat ∷ []

-- The actors of a kind that are played, of the first so many numbers.
abbrev pub all_played : {A : Type 0} → List Seated → (Seated → List A) → ℕ → List A
all_played crew kind n = filter_map (played crew kind) (range_with_len 0 n)

-- The history of the lists that are left.
abbrev pub history_of : ℕ → Option ℕ → ℕ → Left → History
history_of total cut start left =
    record {
      total = total;
      cut = cut;
      arrivals = left.arrivals;
      taken = left.queues.taken;
      choices = left.queues.choices;
      lanes = left.rx.lanes;
      inboxes = left.rx.outs;
      sent = left.replies.sent;
      tx_choices = left.replies.choices;
      tx_lanes = left.tx.lanes;
      port = list_at left.tx.outs 0;
      writes = left.replies.writes;
      commands = left.commands;
      start = start;
    }

-- The lists of a history that a run of so many queues and applications leaves: the lanes of both
-- boards, by their endings, and the journals of its threads.
pub record IsLeft (s : Run) (queues apps : ℕ) (left : Left) : Type 0 where
  pub rx : HasEnded s.stage.rx.sizes (rx_seats s) left.rx
  pub tx : HasEnded s.stage.tx.sizes (tx_seats s) left.tx
  pub words : HaveEnded (hint_seats s)
  pub received : AreReceived s.wire.wire (all_played s.crew.items pollers_of queues)
  pub taken : left.queues.taken
      ≡ map (λ (p : Poller). length p.choices.items) (all_played s.crew.items pollers_of queues)
  pub choices : left.queues.choices
      ≡ map (λ (p : Poller). p.choices.items) (all_played s.crew.items pollers_of queues)
  pub sent : left.replies.sent
      ≡ map (λ (v : Server). v.sent.items) (all_played s.crew.items servers_of apps)
  pub reply_choices : left.replies.choices
      ≡ map (λ (v : Server). v.choices.items) (all_played s.crew.items servers_of apps)
  pub writes : left.replies.writes
      ≡ map (λ (v : Server). v.writes.items) (all_played s.crew.items servers_of apps)
  pub arrivals : left.arrivals ≡ s.stage.late.items
  pub commands : left.commands ≡ s.controller.controller.commands.items

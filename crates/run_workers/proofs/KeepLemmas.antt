-- What a worker keeps at the one board, at the other, and of its stores: what it keeps all in all,
-- and what stays while it works elsewhere.
use Rattle.run_workers.proofs.Names.{◌≡◌, ℕ, List, [], All, refl, sym, ap, subst, ◌∙◌, length}
use Rattle.run_workers.proofs.Names.{StepBy, SeatView, HintStep, HasOpen, IsOutside, BoardSeatView}
use Rattle.run_workers.proofs.Names.{BoardView, Explained, Turn, Setup, no_lane, IsDrain, Drain}
use Rattle.run_workers.proofs.Names.{Exit, Inboxes, Port, Grows, StoresAreFor, Mark, Note, Each}
use Rattle.run_workers.proofs.Names.{IsTurnOfOne, KeepsDrain, KeepsPoller, KeepsServer, StageView}
use Rattle.run_workers.proofs.Names.{IsBetween, IsWorking, Seats, Worker}
use Rattle.run_workers.proofs.EachLemmas.{each_more, turns_stay}
use Rattle.run_workers.proofs.SeatLemmas.{Moves, between_calls}
use Rattle.run_workers.proofs.StayLemmas.{drain_stays, poller_stays, server_stays}

abbrev Hint : Type 0
Hint = SeatView HintStep

-- ---- one board

-- what a worker keeps at a board: of its seat, of the actors that make turns there, and of its
-- drains
pub record KeepsBoard {A : Type 0} (board : BoardView) (given : Setup) (exit : Exit)
    (seat : BoardSeatView) (drains : List Drain) (actors : List A) (Keeps : ℕ → A → Type 0)
    (turns : List (StepBy Turn)) : Type 0 where
  pub between : IsBetween board (length drains) seat
  pub explained : Explained seat.steps turns
  pub by_actors : All (IsTurnOfOne board.sizes seat.number (length actors)) turns
  pub each : Each Keeps actors
  pub each_drain : Each (KeepsDrain board.sizes given exit seat) drains

-- a call leaves the drains ds of a board, now es; its actors were these before, and are these after
module _ {A : Type 0} (board : BoardView) (given : Setup) (exit : Exit) (old new : BoardSeatView)
    (ds es : List Drain) (before after : List A) (Was Is : ℕ → A → Type 0)
    (turns : List (StepBy Turn)) (same_drains : es ≡ ds) (many : length after ≡ length before)
    (each : Each Is after) (k : KeepsBoard board given exit old ds before Was turns) where
  drains_stay : new.number ≡ old.number
      → ((d : Drain) → IsDrain given d old.steps → IsDrain given d new.steps)
      → Each (KeepsDrain board.sizes given exit new) es
  drains_stay number leave =
      each_more (KeepsDrain board.sizes given exit new) (KeepsDrain board.sizes given exit old) ds
      es same_drains
      (λ l d kept. drain_stays board.sizes given exit old new l d number (leave d) kept)
      k.each_drain

  -- the seat did nothing
  pub board_stays : new ≡ old → KeepsBoard board given exit new es after Is turns
  board_stays same =
      let number : new.number ≡ old.number = ap (λ (z : BoardSeatView). z.number) same in
      record {
        between = subst (λ (z : ℕ × BoardSeatView). IsBetween board z.0 z.1)
            (λ j. (sym (ap length same_drains) j, sym same j)) k.between;
        explained = subst (λ (z : BoardSeatView). Explained z.steps turns) (sym same) k.explained;
        by_actors = turns_stay board.sizes new.number old.number (length after) (length before)
            turns number many k.by_actors;
        each = each;
        each_drain = drains_stay number
            (λ d. subst (λ (z : BoardSeatView). IsDrain given d z.steps) (sym same));
      }

  -- the seat served no lane, and its list is explained by these turns
  pub board_calls : (more : List (StepBy Turn)) → new.number ≡ old.number
      → Moves no_lane old new → IsOutside new.steps → HasOpen new.steps
      → Explained new.steps more → All (IsTurnOfOne board.sizes old.number (length before)) more
      → ((d : Drain) → IsDrain given d old.steps → IsDrain given d new.steps)
      → KeepsBoard board given exit new es after Is more
  board_calls more number moves outside gate explained by leave =
      record {
        between = between_calls board (length es) (length ds) no_lane old new
            (ap length same_drains) moves (λ l far. refl) outside gate k.between;
        explained = explained;
        by_actors = turns_stay board.sizes new.number old.number (length after) (length before)
            more number many by;
        each = each;
        each_drain = drains_stay number leave;
      }

-- ---- the worker

abbrev pub KeepsReceive : StageView → Worker → Seats → (ℕ → ℕ) → List (StepBy Turn)
    → List (StepBy Mark) → Type 0
KeepsReceive t w s first turns marks =
    KeepsBoard t.rx t.shared.given Inboxes s.rx w.drains.items w.pollers.items
    (KeepsPoller t s first turns marks) turns

abbrev pub KeepsTransmit : StageView → Worker → Seats → ℕ → List (StepBy Turn)
    → List (StepBy Note) → Type 0
KeepsTransmit t w s rows replies noted =
    KeepsBoard t.tx t.shared.given Port s.tx w.ships.items w.servers.items
    (KeepsServer t s rows replies noted) replies

-- what a worker keeps of what it stored at the hint words
pub record KeepsStores (t : StageView) (w : Worker) (s : Seats) (turns : List (StepBy Turn))
    (marks : List (StepBy Mark)) (noted : List (StepBy Note)) : Type 0 where
  pub table : s.hint.table ≡ t.shared.hints.table
  pub marked_by : All (IsTurnOfOne t.rx.sizes s.rx.number (length w.pollers.items)) marks
  pub noted_by : All (IsTurnOfOne t.tx.sizes s.tx.number (length w.servers.items)) noted
  pub stores : StoresAreFor t.shared.given t.shared.filters turns marks noted s.hint.steps

-- the worker w has become v, and its seats r
module _ (t : StageView) (w v : Worker) (s r : Seats) (x : IsWorking t w s) where
  pub received : KeepsReceive t w s x.first x.turns x.marks
  received = assumption

  pub transmitted : KeepsTransmit t w s x.rows x.replies x.noted
  transmitted = assumption

  pub works : (turns replies : List (StepBy Turn)) (marks : List (StepBy Mark))
      (noted : List (StepBy Note)) → KeepsReceive t v r x.first turns marks
      → KeepsTransmit t v r x.rows replies noted → KeepsStores t v r turns marks noted
      → IsWorking t v r
  works turns replies marks noted receive transmit stores =
      record {
        sizes = x.sizes;
        rx = receive.between;
        tx = transmit.between;
        hint_table = stores.table;
        first = x.first;
        rows = x.rows;
        flows = x.flows;
        turns = turns;
        steered = receive.explained;
        by_pollers = receive.by_actors;
        marks = marks;
        marked_by = stores.marked_by;
        replies = replies;
        replied = transmit.explained;
        by_servers = transmit.by_actors;
        noted = noted;
        noted_by = stores.noted_by;
        stores = stores.stores;
        pollers = receive.each;
        drains = receive.each_drain;
        servers = transmit.each;
        ships = transmit.each_drain;
      }

  -- ---- the actors that are left alone

  module _ (hints : Grows s.hint.steps r.hint.steps) where
    pub pollers_stay : v.pollers.items ≡ w.pollers.items → r.rx.number ≡ s.rx.number
        → Grows s.rx.steps r.rx.steps
        → Each (KeepsPoller t r x.first x.turns x.marks) v.pollers.items
    pollers_stay same number steps =
        each_more (KeepsPoller t r x.first x.turns x.marks)
        (KeepsPoller t s x.first x.turns x.marks) w.pollers.items v.pollers.items same
        (λ k p kept. poller_stays t s r x.first x.turns x.turns x.marks x.marks k p number refl
        refl steps hints kept) x.pollers

    pub servers_stay : v.servers.items ≡ w.servers.items → r.tx.number ≡ s.tx.number
        → Grows s.rx.steps r.rx.steps → Grows s.tx.steps r.tx.steps
        → Each (KeepsServer t r x.rows x.replies x.noted) v.servers.items
    servers_stay same number steps tx_steps =
        each_more (KeepsServer t r x.rows x.replies x.noted)
        (KeepsServer t s x.rows x.replies x.noted) w.servers.items v.servers.items same
        (λ k u kept. server_stays t s r x.rows x.replies x.replies x.noted x.noted k u number refl
        refl steps tx_steps hints kept) x.servers

    -- ---- the board that is left alone

    pub receive_stays : v.pollers.items ≡ w.pollers.items → v.drains.items ≡ w.drains.items
        → r.rx ≡ s.rx → KeepsReceive t v r x.first x.turns x.marks
    receive_stays pollers drains rx =
        board_stays t.rx t.shared.given Inboxes s.rx r.rx w.drains.items v.drains.items
        w.pollers.items v.pollers.items (KeepsPoller t s x.first x.turns x.marks)
        (KeepsPoller t r x.first x.turns x.marks) x.turns drains (ap length pollers)
        (pollers_stay pollers (ap (λ (z : BoardSeatView). z.number) rx)
        ([], ap (λ (z : BoardSeatView). z.steps) rx)) received rx

    pub transmit_stays : v.servers.items ≡ w.servers.items → v.ships.items ≡ w.ships.items
        → r.tx ≡ s.tx → Grows s.rx.steps r.rx.steps
        → KeepsTransmit t v r x.rows x.replies x.noted
    transmit_stays servers ships tx steps =
        board_stays t.tx t.shared.given Port s.tx r.tx w.ships.items v.ships.items
        w.servers.items v.servers.items (KeepsServer t s x.rows x.replies x.noted)
        (KeepsServer t r x.rows x.replies x.noted) x.replies ships (ap length servers)
        (servers_stay servers (ap (λ (z : BoardSeatView). z.number) tx) steps
        ([], ap (λ (z : BoardSeatView). z.steps) tx)) transmitted tx

  -- ---- what was stored

  pub marks_stay : v.pollers.items ≡ w.pollers.items → r.rx.number ≡ s.rx.number
      → All (IsTurnOfOne t.rx.sizes r.rx.number (length v.pollers.items)) x.marks
  marks_stay pollers number =
      turns_stay t.rx.sizes r.rx.number s.rx.number (length v.pollers.items)
      (length w.pollers.items) x.marks number (ap length pollers) x.marked_by

  pub notes_stay : length v.servers.items ≡ length w.servers.items → r.tx.number ≡ s.tx.number
      → All (IsTurnOfOne t.tx.sizes r.tx.number (length v.servers.items)) x.noted
  notes_stay many number =
      turns_stay t.tx.sizes r.tx.number s.tx.number (length v.servers.items)
      (length w.servers.items) x.noted number many x.noted_by

  -- nothing more was stored
  pub stores_stay : v.pollers.items ≡ w.pollers.items → v.servers.items ≡ w.servers.items
      → r.rx.number ≡ s.rx.number → r.tx.number ≡ s.tx.number → r.hint ≡ s.hint
      → KeepsStores t v r x.turns x.marks x.noted
  stores_stay pollers servers rx tx hint =
      record {
        table = ap (λ (z : Hint). z.table) hint ∙ x.hint_table;
        marked_by = marks_stay pollers rx;
        noted_by = notes_stay (ap length servers) tx;
        stores = subst (λ (z : Hint). StoresAreFor t.shared.given t.shared.filters x.turns x.marks
            x.noted z.steps) (sym hint) x.stores;
      }

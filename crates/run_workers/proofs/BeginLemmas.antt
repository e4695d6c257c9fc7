-- A new worker, and one that knows the arrivals.
use Rattle.std.proofs.lemmas.List.Elements.{All-nil}
use Rattle.run_words.specs.declared.shared.Shared.{Shared}
use Rattle.run_workers.specs.Hands.Pollers.{AreRead}
use Rattle.run_workers.specs.Hands.Servers.{HasMaps}
use Rattle.run_workers.proofs.Names.{◌≡◌, ℕ, List, [], Option, None, IfSome, refl, sym, subst}
use Rattle.run_workers.proofs.Names.{length, StepBy}
use Rattle.run_workers.proofs.Names.{Arrival, HintStep, none-some, lane_steps, holding, idle}
use Rattle.run_workers.proofs.Names.{out_holding, phase, BoardSizes, HasOpen, IsOutside}
use Rattle.run_workers.proofs.Names.{BoardSeatView, BoardView, Explained, Turn, Setup, IsDrain}
use Rattle.run_workers.proofs.Names.{Drain, Exit, Inboxes, Port, Poller, Server, StoresAreFor, Mark}
use Rattle.run_workers.proofs.Names.{Note, KeepsDrain, KeepsPoller, KeepsServer, StageView}
use Rattle.run_workers.proofs.Names.{stage_view, IsBetween, Seats}
use Rattle.run_workers.proofs.Records.PollingLemmas.{pollers_begin}
use Rattle.run_workers.proofs.Records.ReplyingLemmas.{arrivals_come, servers_begin}
use Rattle.run_workers.specs.Laws.{ArrivalsBecomeKnown, IsNewDrain, IsNewPoller}
use Rattle.run_workers.specs.Laws.{IsNewServer, WorkersBegin}
use Rattle.run_workers.specs.Stages.{HasSizes}

-- ---- the beginning

between_at_first : (board : BoardView) (count : ℕ) (seat : BoardSeatView)
    → seat.table ≡ board.table → seat.steps ≡ [] → IsBetween board count seat
between_at_first board count seat table none =
    record {
      table = table;
      outside = subst IsOutside (sym none) refl;
      gate = subst HasOpen (sym none) refl;
      lanes = λ l. subst (λ ds. holding l (lane_steps ds) ≡ None) (sym none) refl;
      outs = λ o. subst (λ ds. out_holding o (lane_steps ds) ≡ None) (sym none) refl;
      others = λ l far. subst (λ ds. phase l (lane_steps ds) ≡ idle) (sym none) refl;
    }

explained_at_first : (seat : BoardSeatView) → seat.steps ≡ [] → Explained seat.steps []
explained_at_first seat none = subst (λ ds. Explained ds []) (sym none) refl

nothing_stored : (given : Setup) (filters : ℕ) (hints : List HintStep) → hints ≡ []
    → StoresAreFor given filters [] [] [] hints
nothing_stored given filters hints none =
    subst (StoresAreFor given filters [] [] []) (sym none)
    (λ n word value d there writes. none-some d there)

drain_begins : (about : BoardSizes) (given : Setup) (exit : Exit) (seat : BoardSeatView) (k : ℕ)
    (d : Drain) → seat.steps ≡ [] → IsNewDrain about given exit seat.number k d
    → KeepsDrain about given exit seat k d
drain_begins about given exit seat k d none x = assumption (subst (IsDrain given d) (sym none) x.is)

poller_begins : (t : StageView) (s : Seats) (first : ℕ → ℕ) (k : ℕ) (p : Poller)
    → IsNewPoller t s.rx.number first k p → KeepsPoller t s first [] [] k p
poller_begins t s first k p x =
    assumption (
      subst (λ o. IfSome o (λ z. AreRead (length t.shared.given.homes) p.queue z.reading s.rx.steps
          z.visit)) (sym x.kept) tt,
      pollers_begin t.shared.given (first p.queue) t.rx.sizes.start p [] [] s.rx.steps s.hint.steps
          x.hand x.flows x.choices x.accepted x.table x.ring refl refl,
    )

server_begins : (t : StageView) (s : Seats) (rows k : ℕ) (v : Server)
    → IsNewServer t s.tx.number rows k v → KeepsServer t s rows [] [] k v
server_begins t s rows k v x =
    assumption (
      subst (λ (visit : Option ℕ). IfSome visit (λ (n : ℕ). HasMaps t.shared.given
          t.shared.given.txs v.kept.maps s.tx.steps n)) (sym x.kept) tt,
      servers_begin t.shared.given rows t.tx.sizes.start t.late v [] [] s.rx.steps s.tx.steps
          s.hint.steps x.hand x.table x.sent x.choices x.writes refl refl,
    )

pub workers_begin : WorkersBegin
workers_begin t w s x =
    record {
      sizes = x.sizes;
      rx = between_at_first t.rx (length w.drains.items) s.rx x.rx_table x.rx_steps;
      tx = between_at_first t.tx (length w.ships.items) s.tx x.tx_table x.tx_steps;
      hint_table = x.hint_table;
      first = x.first;
      rows = x.rows;
      flows = x.flows;
      turns = [];
      steered = explained_at_first s.rx x.rx_steps;
      by_pollers = All-nil _;
      marks = [];
      marked_by = All-nil _;
      replies = [];
      replied = explained_at_first s.tx x.tx_steps;
      by_servers = All-nil _;
      noted = [];
      noted_by = All-nil _;
      stores = nothing_stored t.shared.given t.shared.filters s.hint.steps x.hint_steps;
      pollers = λ k p got. poller_begins t s x.first k p (x.pollers k p got);
      drains = λ k d got.
          drain_begins t.rx.sizes t.shared.given Inboxes s.rx k d x.rx_steps (x.drains k d got);
      servers = λ k v got. server_begins t s x.rows k v (x.servers k v got);
      ships = λ k d got.
          drain_begins t.tx.sizes t.shared.given Port s.tx k d x.tx_steps (x.ships k d got);
    }

-- ---- the arrivals

module _ (rx tx : BoardView) (shared : Shared) (arrivals : List Arrival) (s : Seats) where
  abbrev before : StageView
  before = stage_view rx tx shared []

  abbrev after : StageView
  after = stage_view rx tx shared arrivals

  same_sizes : HasSizes before → HasSizes after
  same_sizes x = assumption

  same_poller : (first : ℕ → ℕ) (turns : List (StepBy Turn)) (marks : List (StepBy Mark)) (k : ℕ)
      (p : Poller) → KeepsPoller before s first turns marks k p
      → KeepsPoller after s first turns marks k p
  same_poller first turns marks k p x = assumption

  later_server : (rows : ℕ) (replies : List (StepBy Turn)) (noted : List (StepBy Note)) (k : ℕ)
      (v : Server) → KeepsServer before s rows replies noted k v
      → KeepsServer after s rows replies noted k v
  later_server rows replies noted k v x =
      assumption (
      arrivals_come shared.given rows tx.sizes.start arrivals v replies noted s.rx.steps
      s.tx.steps s.hint.steps x.keeps)

pub arrivals_become_known : ArrivalsBecomeKnown
arrivals_become_known rx tx shared arrivals w s x =
    record {
      sizes = same_sizes rx tx shared arrivals s x.sizes;
      rx = x.rx;
      tx = x.tx;
      hint_table = x.hint_table;
      first = x.first;
      rows = x.rows;
      flows = x.flows;
      turns = x.turns;
      steered = x.steered;
      by_pollers = x.by_pollers;
      marks = x.marks;
      marked_by = x.marked_by;
      replies = x.replies;
      replied = x.replied;
      by_servers = x.by_servers;
      noted = x.noted;
      noted_by = x.noted_by;
      stores = x.stores;
      pollers = λ k p got.
          same_poller rx tx shared arrivals s x.first x.turns x.marks k p (x.pollers k p got);
      drains = x.drains;
      servers = λ k v got.
          later_server rx tx shared arrivals s x.rows x.replies x.noted k v (x.servers k v got);
      ships = x.ships;
    }

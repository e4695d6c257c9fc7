-- The turns of the run with loads, and choices by tables.
use Rattle.std.proofs.Common.{◌≡◌, ℕ, zero, suc, inl, List, [], ◌∷◌, Some}
use Rattle.std.proofs.Common.{true, false, length, map, All, sym, refl, ap, subst, ◌∙◌, arith}
use Rattle.std.specs.Prelude.{◌%◌, ◌^◌, slice_index, take}
use Rattle.std.specs.List.{Contains}
use Rattle.std.proofs.lemmas.List.Elements.{All-nil}
use Rattle.linearization.specs.Orders.{StepBy, step_by}
use Rattle.steer_base.specs.Sets.{those_below}
use Rattle.steer_base.specs.declared.put.Put.TheVariants.{At}
use Rattle.dev_flow_table.specs.Tables.{entries}
use Rattle.dev_flow_table.specs.Walks.{since_resize}
use Rattle.history.specs.Lists.{arrivals_at, list_at}
use Rattle.hop_model.specs.Hop.{chosen_at}
use Rattle.hop_rule.specs.Moments.{nth_step, past}
use Rattle.hop_rule.specs.Owns.{puts_of}
use Rattle.hop_rule.specs.declared.step.BoardStep.TheVariants.{Gate, Weighed}
use Rattle.hop_rule.specs.declared.step.GateStep.TheVariants.{Read}
use Rattle.hop_rule.proofs.Lists.{none-some, some-is}
use Rattle.hop_delivery.specs.Closings.TurnReads.{HasSeen, Knows, KnowsMaps}
use Rattle.hop_delivery.specs.Orders.ReceiveSettings.{receive_steering, socket_word}
use Rattle.hop_delivery.specs.Orders.Runs.{Execution, turns_of}
use Rattle.hop_delivery.specs.Orders.TransmitSettings.{transmit_steering}
use Rattle.hop_delivery.specs.Orders.Turns.{Explained, Turn}
use Rattle.run_example.proofs.ListLemmas.{all_of_each, none-arrived, nth_of_all, own_empty}
use Rattle.steer_model.specs.Good.Inputs.{setup_in}
use Rattle.steer_model.specs.State.Setup.{flow_number_of, packet_hash}
use Rattle.run_example.specs.MovingRun.{four_again, moving_history, moving_replies, moving_rx}
use Rattle.run_example.specs.MovingRun.{moving_rx_order, moving_tx, moving_tx_order}
use Rattle.run_example.specs.MovingRun.{other_chosen, table_choices}
use Rattle.run_coupling.specs.Coupling.Inputs.{receive_queues}
use Rattle.run_coupling.specs.Coupling.OwnTables.{IsByTable, table_before}
use Rattle.run_coupling.specs.Coupling.Queues.{KeepsQueues}
use Rattle.run_words.specs.Lists.{oldest_first}
use Rattle.run_coupling.specs.Coupling.Turns.{KeepsTurns}
use Rattle.run_example.proofs.MovingBoards.{i, rx-lawful, rx_own, tx-lawful, tx_own}
use Rattle.run_example.specs.Moves.{of_first, of_two, turn}

-- ---- the receive queues

abbrev pub turn_first : Turn
turn_first = (turn moving_rx_order (chosen_at table_choices 0) 0 0 6 (Some 2) (At 1)).step

abbrev pub turn_again : Turn
turn_again = (turn moving_rx_order (chosen_at table_choices 1) (2 ^ 32) 15 21 (Some 2) (At 1)).step

abbrev pub turn_other : Turn
turn_other = (turn moving_rx_order other_chosen (2 ^ 32) 28 34 (Some 2) (At 2)).step

abbrev rx_turns : List (StepBy Turn)
rx_turns = step_by 1 turn_other ∷ step_by 0 turn_again ∷ step_by 0 turn_first ∷ []

abbrev pub rx_execution : Execution
rx_execution = record {
  arrivals = of_two (0 ∷ 1 ∷ []) (2 ∷ []) [];
  choices = of_two table_choices (other_chosen ∷ []) [];
  seat = of_two 0 0 2;
  turns = of_first rx_turns [];
}

rx-explained : (q : ℕ) → Explained (rx_own q) (rx_execution.turns q)
rx-explained zero = (
  take 7 (rx_own 0),
  [],
  past 28 (rx_own 0),
  refl,
  refl,
  record { puts = refl; visits = refl },
  record { puts = refl; visits = refl },
  (
    take 5 (past 28 (rx_own 0)),
    [],
    past 15 (rx_own 0),
    refl,
    refl,
    record { puts = refl; visits = refl },
    record { puts = refl; visits = refl },
    (
      take 7 (past 15 (rx_own 0)),
      [],
      past 0 (rx_own 0),
      refl,
      refl,
      record { puts = refl; visits = refl },
      record { puts = refl; visits = refl },
      refl,
    ),
  ),
)
rx-explained (suc zero) = refl
rx-explained (suc (suc q)) =
    ap puts_of (own_empty moving_rx moving_rx_order rx-lawful (suc (suc q)) (omega arith))

-- what holds of the turns of both queues holds of each
pub rx-each : (P : ℕ → ℕ → Turn → Type 0) → P 0 0 turn_first → P 0 1 turn_again
    → P 1 0 turn_other
    → (p k : ℕ) (u : Turn) → nth_step (turns_of rx_execution p) k ≡ Some u → P p k u
rx-each P a b c zero k u at = nth_of_all (P 0) (turns_of rx_execution 0) k u (b, (a, tt)) at
rx-each P a b c (suc zero) k u at = nth_of_all (P 1) (turns_of rx_execution 1) k u (c, tt) at
rx-each P a b c (suc (suc p)) k u at = none-some u at

rx-kept : KeepsTurns rx_own rx_execution
rx-kept =
    record { explained = rx-explained; by_seat = by-seat; journal = journal; all_chosen = chosen }
  where
    by-seat : (q : ℕ) → All (λ (e : StepBy Turn). rx_execution.seat e.by ≡ q) (rx_execution.turns q)
    by-seat zero =
        all_of_each (λ (e : StepBy Turn). rx_execution.seat e.by ≡ 0) rx_turns
        (refl, (refl, (refl, tt)))
    by-seat (suc q) = All-nil _

    journal : (p : ℕ) → rx_execution.choices p
        ≡ map (λ (u : Turn). u.chosen) (oldest_first (turns_of rx_execution p))
    journal zero = refl
    journal (suc zero) = refl
    journal (suc (suc p)) = refl

    chosen : (p : ℕ) → map (λ c. c.id) (rx_execution.choices p) ≡ rx_execution.arrivals p
    chosen zero = refl
    chosen (suc zero) = refl
    chosen (suc (suc p)) = refl

-- the settings before the command and after it
abbrev after : ℕ → ℕ
after w = slice_index (1 ∷ 0 ∷ four_again ∷ 0 ∷ 2 ∷ 3 ∷ []) w

abbrev pub rx_seen : ℕ → ℕ → ℕ → ℕ
rx_seen zero zero w = slice_index moving_rx.settings w
rx_seen zero (suc k) w = after w
rx_seen (suc p) k w = after w

abbrev RxByTable : ℕ → ℕ → Turn → Type 0
RxByTable p k u = IsByTable 0 rx_execution (receive_steering (receive_queues i)) (rx_seen p) p k u

first-by-table : RxByTable 0 0 turn_first
unfolding since_resize those_below
first-by-table = record {
  head = 0;
  count = 2;
  exact = false;
  rule = refl;
  rows = λ k class. (let e : k ≡ 0 = sym (some-is 0 k class) in omega arith);
  loaded = λ k l class lane looked. none-some 0 looked;
}

-- the table was cleared for the resize
again-by-table : RxByTable 0 1 turn_again
unfolding since_resize those_below
again-by-table = record {
  head = 0;
  count = 4;
  exact = false;
  rule = refl;
  rows = λ k class. (let e : k ≡ 2 = sym (some-is 2 k class) in omega arith);
  loaded = λ k l class lane looked. none-some 0 looked;
}

other-by-table : RxByTable 1 0 turn_other
unfolding since_resize those_below
other-by-table = record {
  head = 0;
  count = 1;
  exact = false;
  rule = refl;
  rows = λ k class. none-some k class;
  loaded = λ k l class lane looked. none-some k class;
}

pub queues-kept : KeepsQueues i moving_history moving_rx rx_own rx_execution rx_seen
queues-kept =
    record {
      turns = rx-kept;
      choice_lists = refl;
      taken_lists = refl;
      arrivals = arrivals;
      choices = choices;
      taken = taken;
      hashes = rx-each (λ p k u. u.hash ≡ packet_hash (setup_in i) u.chosen.id) refl refl refl;
      knows = rx-each (λ p k u. HasSeen (rx_own (rx_execution.seat p)) (receive_queues i) p u
          (rx_seen p k))
          (record {
            mask = inl (4, omega arith, refl);
            flows = inl (3, omega arith, refl);
            online = inl (1, omega arith, refl);
          })
          (record {
            mask = inl (4, omega arith, refl);
            flows = inl (3, omega arith, refl);
            online = inl (1, omega arith, refl);
          })
          (record {
            mask = inl (4, omega arith, refl);
            flows = inl (3, omega arith, refl);
            online = inl (1, omega arith, refl);
          });
      knows_sock = rx-each (λ p k u. Knows (rx_own (rx_execution.seat p)) u
          (socket_word (receive_queues i)) (rx_seen p k (socket_word (receive_queues i))))
          (inl (2, omega arith, refl)) (inl (2, omega arith, refl)) (inl (2, omega arith, refl));
      by_table = λ p k u at fit.
          rx-each RxByTable first-by-table again-by-table other-by-table p k u at;
    }
  where
    arrivals : (p : ℕ) → rx_execution.arrivals p ≡ arrivals_at moving_history.arrivals p
    arrivals zero = refl
    arrivals (suc zero) = refl
    arrivals (suc (suc p)) =
        sym (none-arrived 2 (suc (suc p)) moving_history.arrivals (omega arith)
        (omega arith, (omega arith, (omega arith, tt))))

    choices : (p : ℕ) → list_at moving_history.choices p ≡ rx_execution.choices p
    choices zero = refl
    choices (suc zero) = refl
    choices (suc (suc p)) = refl

    taken : (p : ℕ) → slice_index moving_history.taken p ≡ length (rx_execution.choices p)
    taken zero = refl
    taken (suc zero) = refl
    taken (suc (suc p)) = refl

-- ---- the application

abbrev reply_first : Turn
reply_first = (turn moving_tx_order (chosen_at moving_replies 0) 0 0 6 (Some 2) (At 1)).step

abbrev reply_same : Turn
reply_same = (turn moving_tx_order (chosen_at moving_replies 1) 0 13 19 (Some 2) (At 2)).step

abbrev reply_moved : Turn
reply_moved = (turn moving_tx_order (chosen_at moving_replies 2) 0 26 33 (Some 2) (At 1)).step

abbrev tx_turns : List (StepBy Turn)
tx_turns = step_by 0 reply_moved ∷ step_by 0 reply_same ∷ step_by 0 reply_first ∷ []

abbrev pub tx_execution : Execution
tx_execution = record {
  arrivals = of_first (0 ∷ 1 ∷ 2 ∷ []) [];
  choices = of_first moving_replies [];
  seat = of_first 0 2;
  turns = of_first tx_turns [];
}

tx-explained : (q : ℕ) → Explained (tx_own q) (tx_execution.turns q)
tx-explained zero = (
  take 5 (tx_own 0),
  [],
  past 26 (tx_own 0),
  refl,
  refl,
  record { puts = refl; visits = refl },
  record { puts = refl; visits = refl },
  (
    take 5 (past 26 (tx_own 0)),
    [],
    past 13 (tx_own 0),
    refl,
    refl,
    record { puts = refl; visits = refl },
    record { puts = refl; visits = refl },
    (
      take 5 (past 13 (tx_own 0)),
      [],
      past 0 (tx_own 0),
      refl,
      refl,
      record { puts = refl; visits = refl },
      record { puts = refl; visits = refl },
      refl,
    ),
  ),
)
tx-explained (suc zero) = refl
tx-explained (suc (suc q)) =
    ap puts_of (own_empty moving_tx moving_tx_order tx-lawful (suc (suc q)) (omega arith))

pub tx-each : (P : ℕ → ℕ → Turn → Type 0) → P 0 0 reply_first → P 0 1 reply_same
    → P 0 2 reply_moved
    → (p k : ℕ) (u : Turn) → nth_step (turns_of tx_execution p) k ≡ Some u → P p k u
tx-each P a b c zero k u at = nth_of_all (P 0) (turns_of tx_execution 0) k u (c, (b, (a, tt))) at
tx-each P a b c (suc p) k u at = none-some u at

pub tx-kept : KeepsTurns tx_own tx_execution
tx-kept =
    record { explained = tx-explained; by_seat = by-seat; journal = journal; all_chosen = chosen }
  where
    by-seat : (q : ℕ) → All (λ (e : StepBy Turn). tx_execution.seat e.by ≡ q) (tx_execution.turns q)
    by-seat zero =
        all_of_each (λ (e : StepBy Turn). tx_execution.seat e.by ≡ 0) tx_turns
        (refl, (refl, (refl, tt)))
    by-seat (suc q) = All-nil _

    journal : (p : ℕ) → tx_execution.choices p
        ≡ map (λ (u : Turn). u.chosen) (oldest_first (turns_of tx_execution p))
    journal zero = refl
    journal (suc p) = refl

    chosen : (p : ℕ) → map (λ c. c.id) (tx_execution.choices p) ≡ tx_execution.arrivals p
    chosen zero = refl
    chosen (suc p) = refl

abbrev pub tx_seen : ℕ → ℕ → ℕ → ℕ
tx_seen p k w = slice_index moving_tx.settings w

abbrev TxByTable : ℕ → ℕ → Turn → Type 0
TxByTable p k u =
    IsByTable 0 tx_execution (transmit_steering (flow_number_of (setup_in i))) (tx_seen p) p k u

reply-first-by-table : TxByTable 0 0 reply_first
unfolding since_resize those_below
reply-first-by-table = record {
  head = 0;
  count = 1;
  exact = true;
  rule = refl;
  rows = λ k class. (let e : k ≡ 0 = sym (some-is 0 k class) in omega arith);
  loaded = λ k l class lane looked. none-some 0 looked;
}

reply-same-by-table : TxByTable 0 1 reply_same
unfolding since_resize those_below
reply-same-by-table = record {
  head = 0;
  count = 1;
  exact = true;
  rule = refl;
  rows = λ k class. (let e : k ≡ 0 = sym (some-is 0 k class) in omega arith);
  loaded = λ k l class lane looked. none-some 0 looked;
}

reply-moved-by-table : TxByTable 0 2 reply_moved
unfolding since_resize those_below
reply-moved-by-table = record {
  head = 2;
  count = 1;
  exact = true;
  rule = refl;
  rows = λ k class. (let e : k ≡ 0 = sym (some-is 0 k class) in omega arith);
  loaded = λ k l class lane looked.
      subst
      (λ (l : ℕ). (w : ℕ) × Contains reply_moved.early (Weighed l w) × (w % 2 ^ 32 ≡ 2))
      (some-is 0 l
      (ap (λ z. (entries (table_before 0 tx_execution
      (transmit_steering (flow_number_of (setup_in i))) (tx_seen 0) 1 true 0 2) z).lane)
      (some-is 0 k class) ∙ lane))
      (2, (1, omega arith, refl), refl);
}

pub by-tables : (p k : ℕ) (u : Turn) → nth_step (turns_of tx_execution p) k ≡ Some u
    → TxByTable p k u
by-tables = tx-each TxByTable reply-first-by-table reply-same-by-table reply-moved-by-table

-- each reply read all four words
pub maps-known : (p k : ℕ) (u : Turn) → nth_step (turns_of tx_execution p) k ≡ Some u
    → KnowsMaps (tx_own (tx_execution.seat p)) 2 u (tx_seen p k)
maps-known =
    tx-each (λ p k u. KnowsMaps (tx_own (tx_execution.seat p)) 2 u (tx_seen p k))
    (maps reply_first (4, omega arith, refl) (3, omega arith, refl) (2, omega arith, refl)
    (1, omega arith, refl))
    (maps reply_same (4, omega arith, refl) (3, omega arith, refl) (2, omega arith, refl)
    (1, omega arith, refl))
    (maps reply_moved (5, omega arith, refl) (4, omega arith, refl) (3, omega arith, refl)
    (2, omega arith, refl))
  where
    maps : (u : Turn) → Contains u.early (Gate (Read 0 0)) → Contains u.early (Gate (Read 1 0))
        → Contains u.early (Gate (Read 2 1)) → Contains u.early (Gate (Read 3 2))
        → KnowsMaps (tx_own 0) 2 u (tx_seen 0 0)
    maps u a b c d zero less = inl a
    maps u a b c d (suc zero) less = inl b
    maps u a b c d (suc (suc zero)) less = inl c
    maps u a b c d (suc (suc (suc zero))) less = inl d
    maps u a b c d (suc (suc (suc (suc w)))) less = absurd (omega arith)

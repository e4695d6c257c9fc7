-- The run with loads keeps all coupling invariants.
use Rattle.std.proofs.Common.{◌≡◌, ℕ, zero, suc, ◌+◌, ◌<◌, inl, inr, [], ◌∷◌}
use Rattle.std.proofs.Common.{None, Some, map, All, refl, ap, subst, arith}
use Rattle.std.specs.List.{Contains}
use Rattle.std.specs.Prelude.{slice_get}
use Rattle.std.proofs.lemmas.List.Elements.{All-nil}
use Rattle.atomic_table.specs.Seated.{TableId}
use Rattle.steer_base.specs.Arrivals.{route}
use Rattle.steer_base.specs.Sets.{those_below}
use Rattle.hint_words.specs.declared.step.HintStep.TheVariants.{Load}
use Rattle.history.specs.Lists.{list_at}
use Rattle.history.specs.Regular.{route_of}
use Rattle.history.specs.declared.arrival.Arrival.{Arrival}
use Rattle.history.specs.declared.sent.Sent.{Sent}
use Rattle.hop_rule.specs.Deliveries.{Delivery}
use Rattle.hop_rule.specs.Moments.{nth_step}
use Rattle.hop_rule.specs.Sizes.{puller}
use Rattle.hop_rule.proofs.Lists.{none-some, some-is}
use Rattle.board_api.specs.Closings.Finals.{lists_of}
use Rattle.board_api.specs.OwnSteps.{delivered_by}
use Rattle.hop_delivery.specs.Orders.Runs.{turns_of}
use Rattle.hop_delivery.specs.Orders.TransmitSettings.{pick_by}
use Rattle.hop_delivery.specs.Orders.Turns.{Turn}
use Rattle.run_example.proofs.ListLemmas.{all_of_each}
use Rattle.run_words.specs.Values.{filter_word, place_word}
use Rattle.steer_model.specs.Good.Inputs.{setup_in}
use Rattle.steer_model.specs.State.Setup.{app_for, packet_hash}
use Rattle.run_example.specs.MovingRun.{MovingRunExists, flow_filter, flow_queue}
use Rattle.run_example.specs.MovingRun.{its_queue, its_stand, its_write}
use Rattle.run_example.specs.MovingRun.{moving_history, moving_rx, moving_rx_order}
use Rattle.run_example.specs.MovingRun.{moving_seats, moving_tx, moving_tx_order}
use Rattle.run_example.specs.MovingRun.{to_other_queue, wire_steps, worker_steps}
use Rattle.run_coupling.specs.Coupling.Applications.{KeepsApplications, WasFoundAt}
use Rattle.run_coupling.specs.Coupling.Hints.{AreRecorded, CameBy, IsRouted, LoadsAreUsed}
use Rattle.run_coupling.specs.Coupling.Hints.{Stands}
use Rattle.run_coupling.specs.Coupling.Inputs.{FlowsHaveOneHash}
use Rattle.run_coupling.specs.Coupling.Runs.{ReceiveCoupling, TransmitCoupling}
use Rattle.run_coupling.proofs.Runs.CodeLemmas.{shared}
use Rattle.run_example.proofs.FrameLemmas.{KeepsHints, run_of}
use Rattle.run_example.proofs.MovingBoards as boards
use Rattle.run_example.proofs.MovingHints.{by-wire, by-worker, ended, marks-kept, meant, no-filter}
use Rattle.run_example.proofs.MovingHints.{none, seats, sent_first, sent_second, sent_third}
use Rattle.run_example.proofs.MovingHints.{size-was-read, wants}
use Rattle.run_example.proofs.MovingBoards.{i, rx_own, tx_own}
use Rattle.run_example.proofs.MovingTurns as turns
use Rattle.run_example.proofs.MovingTurns.{rx_seen, rx_execution, tx_seen, tx_execution}

-- ---- the application

-- what holds of the three replies holds of each
sent-each : (P : ℕ → ℕ → Sent → Type 0) → P 0 0 sent_first → P 0 1 sent_second → P 0 2 sent_third
    → (a k : ℕ) (s : Sent) → slice_get (list_at moving_history.sent a) k ≡ Some s → P a k s
sent-each P x y z zero zero s at = subst (P 0 0) (some-is sent_first s at) x
sent-each P x y z zero (suc zero) s at = subst (P 0 1) (some-is sent_second s at) y
sent-each P x y z zero (suc (suc zero)) s at = subst (P 0 2) (some-is sent_third s at) z
sent-each P x y z zero (suc (suc (suc k))) s at = none-some s at
sent-each P x y z (suc a) k s at = none-some s at

-- the maps pick transmit queue 0 for the packets of queue 0, and 1 for that of queue 1
picks : (a k : ℕ) (u : Turn) (s : Sent) → nth_step (turns_of tx_execution a) k ≡ Some u
    → slice_get (list_at moving_history.sent a) k ≡ Some s
    → u.chosen.choice.want
    ≡ Some (pick_by 2 (tx_seen a k) s.rxq s.cpu (packet_hash (setup_in i) s.id))
unfolding those_below
picks a k u s at there =
    turns.tx-each (λ a k u. (s : Sent) → slice_get (list_at moving_history.sent a) k ≡ Some s
    → u.chosen.choice.want
    ≡ Some (pick_by 2 (tx_seen a k) s.rxq s.cpu (packet_hash (setup_in i) s.id)))
    (λ s there. ap (λ (s : Sent).
    Some (pick_by 2 (tx_seen 0 0) s.rxq s.cpu (packet_hash (setup_in i) s.id)))
    (some-is sent_first s there))
    (λ s there. ap (λ (s : Sent).
    Some (pick_by 2 (tx_seen 0 1) s.rxq s.cpu (packet_hash (setup_in i) s.id)))
    (some-is sent_second s there))
    (λ s there. ap (λ (s : Sent).
    Some (pick_by 2 (tx_seen 0 2) s.rxq s.cpu (packet_hash (setup_in i) s.id)))
    (some-is sent_third s there)) a k u at s there

applications-kept : KeepsApplications i moving_history rx_own moving_tx tx_own tx_execution tx_seen
applications-kept =
    record {
      turns = turns.tx-kept;
      sent_lists = refl;
      choice_lists = refl;
      write_lists = refl;
      replies = replies;
      choices = choices;
      found = sent-each (λ a k s. WasFoundAt rx_own a k s.id)
          (record { seat = 0; step = 13; word = _; found = _; does = refl; there = refl })
          (record { seat = 0; step = 41; word = _; found = _; does = refl; there = refl })
          (record { seat = 0; step = 41; word = _; found = _; does = refl; there = refl });
      knows = turns.maps-known;
      picks = λ a k u s at there fit. picks a k u s at there;
      by_table = turns.by-tables;
    }
  where
    replies : (a : ℕ) → tx_execution.arrivals a
        ≡ map (λ (s : Sent). s.id) (list_at moving_history.sent a)
    replies zero = refl
    replies (suc a) = refl

    choices : (a : ℕ) → list_at moving_history.tx_choices a ≡ tx_execution.choices a
    choices zero = refl
    choices (suc a) = refl

-- ---- how loads were used

module _ (table : TableId) where
  -- an arrival for which the wire found no filter, and no entry but the plan's
  by-plan : (a : Arrival) → Contains wire_steps (Load flow_filter 0)
      → Contains wire_steps (Load flow_queue 0) → route_of a ≡ route (Some 2) None 0
      → IsRouted i moving_history shared (seats table) (Some 2) a
  by-plan a filter entry way =
      inl (
        0,
        way,
        inr (0, 0, refl, by-wire table flow_filter 0 filter, no-filter table),
        inr ((0, by-wire table flow_queue 0 entry, none table 2), refl),
      )

  stood : Contains worker_steps (Load its_stand 0)
      → Stands i moving_history shared (seats table) 0 1
  stood has = inr ((0, by-worker table its_stand 0 has, none table 2), refl)

  announced : (x q : ℕ) → q < 2 → Contains worker_steps (Load (its_queue x) (place_word q))
      → CameBy i moving_history shared (seats table) x q
  announced x q less has =
      inl (q + 1, by-worker table (its_queue x) (place_word q) has, (less, refl))

  abbrev used : LoadsAreUsed i moving_history shared (seats table) rx_own rx_execution rx_seen
  used =
      record {
        arrivals = all_of_each
            (λ (a : Arrival). IsRouted i moving_history shared (seats table)
            (packet_hash (setup_in i) a.id) a) moving_history.arrivals (
              by-plan (record { id = 0; queue = 0; filter = None; entry = Some 0 })
                  (7, omega arith, refl) (6, omega arith, refl) refl,
              (
                by-plan (record { id = 1; queue = 0; filter = None; entry = Some 0 })
                    (4, omega arith, refl) (3, omega arith, refl) refl,
                (
                  inr (
                    0,
                    to_other_queue,
                    omega arith,
                    omega arith,
                    refl,
                    refl,
                    by-wire table flow_filter (filter_word to_other_queue) (1, omega arith, refl),
                  ),
                  tt,
                ),
              ),
            );
        wants = wants table;
        queues = queues;
        stands = stands;
        writes = writes;
      }
    where
      queues : (a : ℕ) → All (λ (s : Sent). CameBy i moving_history shared (moving_seats table)
          s.id s.rxq) (list_at moving_history.sent a)
      queues zero =
          all_of_each (λ (s : Sent). CameBy i moving_history shared (moving_seats table) s.id s.rxq)
          (sent_first ∷ sent_second ∷ sent_third ∷ []) (
            announced 0 0 (omega arith) (17, omega arith, refl),
            (
              announced 1 0 (omega arith) (8, omega arith, refl),
              (announced 2 1 (omega arith) (1, omega arith, refl), tt),
            ),
          )
      queues (suc a) =
          All-nil (λ (s : Sent). CameBy i moving_history shared (moving_seats table) s.id s.rxq)

      stands : (a : ℕ) → All (λ (s : Sent). Stands i moving_history shared (moving_seats table) a
          s.cpu) (list_at moving_history.sent a)
      stands zero =
          all_of_each (λ (s : Sent). Stands i moving_history shared (moving_seats table) 0 s.cpu)
          (sent_first ∷ sent_second ∷ sent_third ∷ []) (
            stood (16, omega arith, refl),
            (stood (7, omega arith, refl), (stood (0, omega arith, refl), tt)),
          )
      stands (suc a) =
          All-nil (λ (s : Sent). Stands i moving_history shared (moving_seats table) (suc a) s.cpu)

      writes : (a : ℕ) → AreRecorded i moving_history shared (moving_seats table) rx_own a
          (map (λ (s : Sent). s.id) (list_at moving_history.sent a))
          (list_at moving_history.writes a)
      writes zero =
          inr (inl (
            2,
            its_write,
            its_write ∷ its_write ∷ [],
            2,
            refl,
            refl,
            size-was-read table,
            refl,
            stood (19, omega arith, refl),
            inr (inl (
              2,
              its_write,
              its_write ∷ [],
              2,
              refl,
              refl,
              size-was-read table,
              refl,
              stood (10, omega arith, refl),
              inr (inl (
                2,
                its_write,
                [],
                2,
                refl,
                refl,
                size-was-read table,
                refl,
                stood (3, omega arith, refl),
                refl,
              )),
            )),
          ))
      writes (suc a) = refl

-- ---- all together

received : ReceiveCoupling i moving_history moving_rx rx_own (lists_of moving_rx moving_rx_order)
    boards.tries rx_execution rx_seen
received =
    record {
      board = record {
        start = refl;
        lane_count = refl;
        out_count = refl;
        limit = refl;
        room = refl;
        limited = refl;
        settings = boards.first-words;
        lanes = refl;
        inboxes = refl;
      };
      tries_are = boards.rx-tries;
      finds = boards.finds;
      queues = turns.queues-kept;
      right = right;
      retired = refl;
    }
  where
    right : (l : ℕ) → l < 2
        → All (λ (g : Delivery). g.to ≡ app_for (setup_in i) g.id)
        (delivered_by l (rx_own (puller moving_rx l)))
    right zero less =
        all_of_each (λ (g : Delivery). g.to ≡ app_for (setup_in i) g.id)
        (delivered_by 0 (rx_own (puller moving_rx 0))) (refl, tt)
    right (suc zero) less =
        all_of_each (λ (g : Delivery). g.to ≡ app_for (setup_in i) g.id)
        (delivered_by 1 (rx_own (puller moving_rx 1))) (refl, (refl, tt))
    right (suc (suc l)) less = absurd (omega arith)

sent : TransmitCoupling i moving_history rx_own moving_tx tx_own
    (lists_of moving_tx moving_tx_order)
    boards.tries tx_execution tx_seen
sent =
    record {
      board = record {
        start = refl;
        lane_count = refl;
        out_count = refl;
        limit = refl;
        limited = refl;
        settings = boards.first-maps;
        lanes = refl;
        port = refl;
      };
      tries_are = boards.tx-tries;
      applications = applications-kept;
      right = right;
      retired = refl;
    }
  where
    right : (l : ℕ) → l < 2 → All (λ (g : Delivery). g.to ≡ 0)
        (delivered_by l (tx_own (puller moving_tx l)))
    right zero less =
        all_of_each (λ (g : Delivery). g.to ≡ 0)
        (delivered_by 0 (tx_own (puller moving_tx 0))) (refl, (refl, tt))
    right (suc zero) less =
        all_of_each (λ (g : Delivery). g.to ≡ 0)
        (delivered_by 1 (tx_own (puller moving_tx 1))) (refl, tt)
    right (suc (suc l)) less = absurd (omega arith)

hashes : FlowsHaveOneHash i
hashes zero less = refl
hashes (suc zero) less = refl
hashes (suc (suc zero)) less = refl
hashes (suc (suc (suc x))) less = absurd (omega arith)

hints : (table : TableId)
    → KeepsHints i moving_history (moving_seats table) rx_own rx_execution rx_seen
hints table =
    record {
      ended = ended table;
      meant = meant table;
      used = used table;
      marks = marks-kept table;
    }

pub moving_run_exists : MovingRunExists
moving_run_exists =
    record {
      within = boards.within;
      runs = λ table.
          run_of i moving_history moving_rx moving_rx_order boards.rx-ends moving_tx
          moving_tx_order boards.tx-ends boards.tries rx_execution tx_execution rx_seen tx_seen
          (moving_seats table)
          (record { hashes = hashes; arrived = refl; total = refl; cut = refl; start = refl })
          boards.commands-kept received sent refl (hints table) table;
      wanted = refl;
      moved = refl;
      port = refl;
    }

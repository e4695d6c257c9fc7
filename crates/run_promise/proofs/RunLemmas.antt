-- The two hops of a run, each by the order of its board, and the words beside them.
use Rattle.std.proofs.Common.{◌≡◌, ℕ, zero, suc, ◌-◌, List, [], ◌∷◌, Some, None, length, map, sym}
use Rattle.std.proofs.Common.{ap, ◌∙◌, subst, arith}
use Rattle.std.proofs.lemmas.List.{get_or_past}
use Rattle.history.specs.Lists.{lane_at, list_at, packet_at}
use Rattle.history.specs.declared.history.History.{History}
use Rattle.history.specs.declared.lane_list.LaneList.{LaneList}
use Rattle.steer_base.specs.Drops.{bucket_of, drop_cause}
use Rattle.steer_base.specs.Sets.{has}
use Rattle.steer_base.specs.declared.cpu_mask.CpuMask.{CpuMask}
use Rattle.hop_rule.specs.Moments.{nth_step}
use Rattle.hop_rule.specs.declared.step.BoardStep.{BoardStep}
use Rattle.board_api.specs.Closings.Closings.{own_in}
use Rattle.board_api.proofs.Endings.{at_closings}
use Rattle.hop_delivery.specs.Closings.FlowLaw.{accepted_left}
use Rattle.hop_delivery.specs.Orders.Commands.{received_sets, sent_sets}
use Rattle.hop_delivery.specs.Orders.ReceiveSettings.{receive_steering}
use Rattle.hop_delivery.specs.Orders.Runs.{IsByRule, turns_of}
use Rattle.hop_delivery.specs.Orders.TransmitSettings.{transmit_steering}
use Rattle.hop_delivery.specs.Orders.Turns.{Turn}
use Rattle.steer_model.specs.Good.Inputs.{Input, setup_in}
use Rattle.steer_model.specs.State.Setup.{flow_number_of, packet_hash}
use Rattle.run_coupling.specs.Coupling.Inputs.{receive_queues}
use Rattle.run_coupling.specs.Coupling.Runs.{IsRun}
use Rattle.run_coupling.specs.Coupling.Tries.{at_receive, at_transmit}
use Rattle.run_coupling.specs.Laws.Choices.{commands_before}
use Rattle.run_coupling.specs.Laws.Replies.{commands_before_reply}
use Rattle.run_goodness.proofs.Runs.ReceiveLemmas as receives
use Rattle.run_goodness.proofs.Runs.RunLemmas as runs
use Rattle.run_goodness.proofs.Runs.TransmitLemmas as transmits
use Rattle.headline.specs.ByRun.{HasNoCause, IsByRun, MapsGoForward, SettingsGoForward}
use Rattle.headline.specs.ByRun.{offered_at}
use Rattle.headline.specs.HopOrders.{AcceptedAs, HopCounts, HopOrder, receive_lists}
use Rattle.headline.specs.HopOrders.{transmit_lists}
use Rattle.run_promise.specs.BoardOrders.{BoardOrder}
use Rattle.run_promise.specs.Laws.{BoardsAreOrdered, RunsAreByRun}
use Rattle.run_promise.proofs.BoardOrderLemmas.{board-order}
use Rattle.run_promise.proofs.FilterLemmas.{filters-are-older}
use Rattle.run_promise.proofs.HopLemmas.{came-at, given-at, given-rise, hop-order, put-is, was-put}
use Rattle.run_promise.proofs.WantLemmas.{wants-are-older, wants-stay-set}

pub boards-are-ordered : BoardsAreOrdered
boards-are-ordered =
    at_closings BoardOrder (λ about order fit lawful. board-order about order fit lawful)

-- a processor's lane with these limits had no cause to drop a packet
abbrev CauseIsNone : Input → CpuMask → ℕ → LaneList → HopCounts → (processor packet : ℕ) → Type 0
CauseIsNone i limited limit lane now c x =
    drop_cause (has limited c) limit (now.accepted c - now.pulled c)
    (map (λ y. bucket_of (packet_at i.packets y).hash)
    (offered_at lane (now.accepted c) (now.dropped c)))
    (packet_at i.packets x).hash
    ≡ None

module _ (i : Input) (h : History) (run : IsRun i h) where
  abbrev rx_own : ℕ → List BoardStep
  rx_own = own_in run.rx_seats

  abbrev tx_own : ℕ → List BoardStep
  tx_own = own_in run.tx_seats

  abbrev rx-board : BoardOrder run.rx rx_own run.rx_lists
  rx-board = boards-are-ordered run.rx run.rx_seats run.rx_lists run.rx_ended

  abbrev tx-board : BoardOrder run.tx tx_own run.tx_lists
  tx-board = boards-are-ordered run.tx run.tx_seats run.tx_lists run.tx_ended

  queue-rule : (p k : ℕ) (u : Turn) → nth_step (turns_of run.queues p) k ≡ Some u
      → IsByRule run.rx rx_own (accepted_left run.rx_lists) run.queues
      (receive_steering (receive_queues i)) p k u
  queue-rule =
      (receives.choices i h run.rx rx_own run.rx_lists (runs.rx-facts i h run) run.tries run.queues
      run.queues_seen run.input run.commands run.received).by_rule

  abbrev receive-order : HopOrder (receive_lists h)
  receive-order =
      let facts = runs.rx-facts i h run in
      let board = run.received.board in
      hop-order run.rx rx_own run.rx_lists facts rx-board run.queues run.received.queues.turns
      (runs.rx-turns i h run) (receive_lists h) (sym board.start) board.lanes
      (λ n. ap (λ ls. list_at ls n) board.inboxes) (ap length board.inboxes ∙ facts.counted.outs)
      run.received.queues.choices (receive_steering (receive_queues i))
      queue-rule

  -- no packet was accepted that had to be dropped
  due : (q k c n : ℕ) (a : AcceptedAs (receive_lists h) q k c n)
      → HasNoCause i h (receive-order.at (receive-order.put q k)) c a.chosen.id
  due q k c n a =
      let facts = runs.rx-facts i h run in
      let board = run.received.board in
      let turns = run.received.queues.turns in
      let w = was-put run.rx rx_own run.rx_lists facts rx-board run.queues turns
      (runs.rx-turns i h run) (receive_lists h) (sym board.start) board.lanes
      (λ n. ap (λ ls. list_at ls n) board.inboxes) (ap length board.inboxes ∙ facts.counted.outs)
      run.received.queues.choices (receive_steering (receive_queues i)) queue-rule q k c n a in
      let same = put-is run.rx rx_own run.rx_lists facts rx-board run.queues turns
      (runs.rx-turns i h run) (receive_lists h) (sym board.start) board.lanes
      (λ n. ap (λ ls. list_at ls n) board.inboxes) (ap length board.inboxes ∙ facts.counted.outs)
      run.received.queues.choices (receive_steering (receive_queues i)) queue-rule q k c n a in
      subst (λ (z : (CpuMask × ℕ) × (LaneList × ℕ)).
      CauseIsNone i z.0.0 z.0.1 z.1.0 (rx-board.at z.1.1) c a.chosen.id)
      (λ j. (
        (board.limited j, board.limit j),
        (lane_at (sym board.lanes j) c, sym same j),
      ))
      (rx-board.due (packet_hash (setup_in i)) (runs.own-hash i h run) c n a.chosen.id w)

  -- the only out list of the way out is the port
  port-list : (n : ℕ) → list_at (h.port ∷ []) n ≡ list_at run.tx_lists.outs n
  port-list zero = run.sent.board.port
  port-list (suc n) =
      let count = (runs.tx-facts i h run).counted.outs in
      let one = run.sent.board.out_count in
      sym (get_or_past run.tx_lists.outs (suc n) [] (omega arith))

  abbrev transmit-order : HopOrder (transmit_lists h)
  transmit-order =
      let facts = runs.tx-facts i h run in
      let board = run.sent.board in
      hop-order run.tx tx_own run.tx_lists facts tx-board run.applications
      run.sent.applications.turns (runs.tx-turns i h run) (transmit_lists h) (sym board.start)
      board.lanes port-list (sym board.out_count) run.sent.applications.choices
      (transmit_steering (flow_number_of (setup_in i)))
      (transmits.replies i h run.rx rx_own run.rx_lists (runs.rx-facts i h run)
      run.received.board.inboxes (runs.inboxes-stand i h run) run.tx tx_own run.tx_lists facts
      run.tries run.applications run.maps_seen (runs.within i h run) run.sent).by_rule

  abbrev settings : SettingsGoForward i h receive-order
  settings =
      let keeps = run.received.queues.turns in
      let kept = run.received.tries_are in
      record {
        at = commands_before run.tries run.queues;
        by_rule =
            (receives.choices-by-rule i h run.rx rx_own run.rx_lists (runs.rx-facts i h run)
            run.tries run.queues run.queues_seen run.input run.commands run.received).by_rule;
        given =
            given-at run.rx rx_own run.rx_lists (runs.rx-facts i h run) rx-board run.queues keeps
            (runs.rx-turns i h run) run.tries at_receive (received_sets (receive_queues i))
            kept.own_list kept.are;
        rise =
            given-rise run.rx rx_own run.rx_lists (runs.rx-facts i h run) rx-board run.queues keeps
            (runs.rx-turns i h run) run.tries at_receive (received_sets (receive_queues i))
            kept.own_list kept.are;
        holds = λ q k less.
            (let size = ap length (run.received.queues.choices q) in
            came-at run.rx rx_own run.rx_lists (runs.rx-facts i h run) rx-board run.queues keeps
            (runs.rx-turns i h run) run.tries at_receive (received_sets (receive_queues i))
            kept.own_list kept.are q k (omega arith));
      }

  maps : MapsGoForward i h transmit-order
  maps =
      let keeps = run.sent.applications.turns in
      let kept = run.sent.tries_are in
      record {
        at = commands_before_reply run.tries run.applications;
        by_rule =
            (transmits.by-rule i h run.rx rx_own run.rx_lists (runs.rx-facts i h run)
            run.received.board.inboxes (runs.inboxes-stand i h run) run.tx tx_own run.tx_lists
            (runs.tx-facts i h run) run.tries run.applications run.maps_seen
            (runs.within i h run) run.sent).each;
        given =
            given-at run.tx tx_own run.tx_lists (runs.tx-facts i h run) tx-board run.applications
            keeps (runs.tx-turns i h run) run.tries at_transmit
            (λ w c. sent_sets (length i.plan.tx) c) kept.own_list kept.are;
        rise =
            given-rise run.tx tx_own run.tx_lists (runs.tx-facts i h run) tx-board run.applications
            keeps (runs.tx-turns i h run) run.tries at_transmit
            (λ w c. sent_sets (length i.plan.tx) c) kept.own_list kept.are;
        holds = λ a k less.
            (let size = ap length (run.sent.applications.choices a) in
            came-at run.tx tx_own run.tx_lists (runs.tx-facts i h run) tx-board run.applications
            keeps (runs.tx-turns i h run) run.tries at_transmit
            (λ w c. sent_sets (length i.plan.tx) c) kept.own_list kept.are a k (omega arith));
      }

  by-run : IsByRun i h
  by-run =
      record {
        receive = receive-order;
        room = λ m c.
            (let limit = run.received.board.limit in
            let most = rx-board.room m c in omega arith);
        due = due;
        settings = settings;
        transmit = transmit-order;
        maps = maps;
        filters = filters-are-older i h run;
        wants = wants-are-older i h run;
        stay = wants-stay-set i h run;
      }

pub runs-are-by-run : RunsAreByRun
runs-are-by-run i h run = by-run i h run

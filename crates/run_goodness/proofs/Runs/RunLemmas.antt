-- A run is good but for what the hint words tell: from all that its threads keep.
use Rattle.std.proofs.lemmas.Bool.{cases_Bool, eqb-true}
use Rattle.std.proofs.lemmas.Option.{slice_get_within}
use Rattle.std.proofs.Math.ListN.{get_or-eq_default}
use Rattle.steer_base.specs.Apps.{app_of}
use Rattle.steer_base.specs.declared.put.Put.{Put}
use Rattle.history.specs.Lists.{drop_ids}
use Rattle.hop_rule.specs.Owns.{PutMade}
use Rattle.hop_rule.specs.Sizes.{puller}
use Rattle.board_api.specs.OwnSteps.{put_step}
use Rattle.hop_delivery.specs.Orders.TransmitSettings.{transmit_steering}
use Rattle.steer_model.specs.Good.Choices.{HeadsAreRising, HeadsRise}
use Rattle.steer_model.specs.Good.Commands.{CommandsAreGiven}
use Rattle.steer_model.specs.Good.Deliveries.{IsDone, IsSwept, of_flow}
use Rattle.steer_model.specs.Good.Drops.{DropsAreExplained}
use Rattle.steer_model.specs.Good.Arrivals.{HasArrived}
use Rattle.steer_model.specs.Good.Replies.{LeaveInOrder, of_reply, replies_of}
use Rattle.run_coupling.specs.Coupling.Inputs.{hash_of_flow}
use Rattle.hop_delivery.specs.Closings.PutPlaces.{AreTurnsOf}
use Rattle.run_coupling.proofs.Ends.EndLemmas as ends
use Rattle.run_coupling.specs.Coupling.Ends.{AllReplied, AllRetired}
use Rattle.run_goodness.proofs.Names.{◌≡◌, ◌⊎◌, inl, inr, ℕ, zero, suc, ◌<◌, ◌≤◌, ◌==◌, ◌&&◌, Bool}
use Rattle.run_goodness.proofs.Names.{true, false, List, [], ◌∷◌, Option, Some, length, map, All}
use Rattle.run_goodness.proofs.Names.{sym, refl, ap, ◌∙◌, subst, arith, get_or, slice_get}
use Rattle.run_goodness.proofs.Names.{length-map, slice_get-get_or, Chosen, LaneDrop, is_in}
use Rattle.run_goodness.proofs.Names.{arrivals_at, lane_at, list_at, History, LaneList, nobody}
use Rattle.run_goodness.proofs.Names.{nth_step, BoardStep, own_in, Has, receive_steering, Input}
use Rattle.run_goodness.proofs.Names.{setup_in, app_for, flow_number_of, packet_hash}
use Rattle.run_goodness.proofs.Names.{receive_queues, IsRun, Try, StandOnce, at_in, BoardFacts}
use Rattle.run_goodness.proofs.Names.{turn-at, IsWithinPlan}
use Rattle.run_goodness.proofs.Ends.{all_are_sent, end_to_end}
use Rattle.run_coupling.proofs.Ends.TotalLemmas.{replies_suffice}
use Rattle.run_coupling.proofs.Lists.PlaceLemmas.{arrived_somewhere, in_at}
use Rattle.run_coupling.proofs.Runs.FactLemmas.{facts_at_closings}
use Rattle.run_coupling.proofs.Runs.PutTurnLemmas.{put-of}
use Rattle.run_goodness.proofs.Runs.ReceiveLemmas as receives
use Rattle.run_coupling.proofs.Runs.StandLemmas as stand
use Rattle.run_goodness.proofs.Runs.TransmitLemmas as transmits
use Rattle.run_goodness.proofs.Tries.AnswerLemmas.{commands_follow, busy_lanes}
use Rattle.run_goodness.proofs.Turns.HeadLemmas.{heads_of_closing}
use Rattle.hop_delivery.proofs.Closings.PutPlaceLemmas.{said, turn_of, turns_put_once}
use Rattle.run_coupling.proofs.Turns.TableLemmas.{drops_follow}

module _ (i : Input) (h : History) (run : IsRun i h) where
  abbrev rx_own : ℕ → List BoardStep
  rx_own = own_in run.rx_seats

  abbrev tx_own : ℕ → List BoardStep
  tx_own = own_in run.tx_seats

  pub rx-facts : BoardFacts run.rx rx_own run.rx_lists
  rx-facts = facts_at_closings run.rx run.rx_seats run.rx_lists run.rx_ended

  pub tx-facts : BoardFacts run.tx tx_own run.tx_lists
  tx-facts = facts_at_closings run.tx run.tx_seats run.tx_lists run.tx_ended

  pub within : All (λ (t : Try). IsWithinPlan i.plan t.given.command) run.tries
  within =
      receives.within i h run.rx rx_own run.rx_lists rx-facts run.tries run.queues run.queues_seen
      run.input run.commands run.received

  pub rx-turns : AreTurnsOf rx_own run.queues
  rx-turns =
      receives.turns i h run.rx rx_own run.rx_lists rx-facts run.tries run.queues run.queues_seen
      run.input run.commands run.received

  pub rx-once : (p q j k x : ℕ) → slice_get (run.queues.arrivals p) j ≡ Some x
      → slice_get (run.queues.arrivals q) k ≡ Some x → (p ≡ q) × (j ≡ k)
  rx-once =
      receives.once i h run.rx rx_own run.rx_lists rx-facts run.tries run.queues run.queues_seen
      run.input run.commands run.received

  pub rx-known : (p j x : ℕ) → slice_get (run.queues.arrivals p) j ≡ Some x → x < length i.packets
  rx-known =
      receives.known i h run.rx rx_own run.rx_lists rx-facts run.tries run.queues run.queues_seen
      run.input run.commands run.received

  pub inboxes-stand : StandOnce run.rx_lists.outs
  inboxes-stand =
      stand.outs-stand run.rx rx_own run.rx_lists rx-facts run.queues
      run.received.queues.turns rx-turns rx-once h.choices run.received.queues.choices

  pub tx-turns : AreTurnsOf tx_own run.applications
  tx-turns =
      transmits.turns i h run.rx rx_own run.rx_lists rx-facts run.received.board.inboxes
      inboxes-stand
      run.tx tx_own run.tx_lists tx-facts run.tries run.applications run.maps_seen within run.sent

  -- ---- 1: arrivals

  pub has-arrived-all : HasArrived i h
  has-arrived-all = record {
    all = run.input.arrived;
    total = run.input.total;
    cut = run.input.cut;
    start = run.input.start;
    queues = run.received.queues.taken_lists;
    cpus =
        ap length run.received.board.lanes
        ∙ (rx-facts.counted.lanes ∙ run.received.board.lane_count);
    txs =
        ap length run.sent.board.lanes
        ∙ (tx-facts.counted.lanes ∙ run.sent.board.lane_count);
  }

  -- ---- 5: heads

  pub heads : HeadsAreRising h
  heads =
      let rx_choices = receives.choices i h run.rx rx_own run.rx_lists rx-facts run.tries run.queues
      run.queues_seen run.input run.commands run.received in
      let tx_replies = transmits.replies i h run.rx rx_own run.rx_lists rx-facts
      run.received.board.inboxes inboxes-stand run.tx tx_own run.tx_lists tx-facts run.tries
      run.applications run.maps_seen within run.sent in
      record {
        rx = λ q.
            subst (λ (z : (ℕ × List LaneList) × List Chosen). HeadsRise z.0.0 z.0.1 z.1)
            (λ j. (
              (run.received.board.start j, sym run.received.board.lanes j),
              sym (run.received.queues.choices q) j,
            ))
            (heads_of_closing run.rx rx_own run.rx_lists rx-facts.fit rx-facts.heads rx-facts.turn
            run.queues (receive_steering (receive_queues i)) q (rx_choices.explained q)
            (rx_choices.counted q) (rx_choices.chosen q) (rx_choices.by_rule q));
        tx = λ a.
            subst (λ (z : (ℕ × List LaneList) × List Chosen). HeadsRise z.0.0 z.0.1 z.1)
            (λ j. (
              (run.sent.board.start j, sym run.sent.board.lanes j),
              sym (run.sent.applications.choices a) j,
            ))
            (heads_of_closing run.tx tx_own run.tx_lists tx-facts.fit tx-facts.heads tx-facts.turn
            run.applications (transmit_steering (flow_number_of (setup_in i))) a
            (tx_replies.explained a) (tx_replies.counted a) (tx_replies.chosen a)
            (tx_replies.by_rule a));
      }

  -- ---- 6: drops

  pub own-hash : (q k l id : ℕ) (hash : Option ℕ) (answer : Put)
      → Has (rx_own q) k (put_step l id hash answer) → hash ≡ packet_hash (setup_in i) id
  own-hash q k l id hash answer does =
      let u = turn_of rx_own run.queues rx-turns q k l id hash answer does in
      let lane : ℕ = u.turn.chosen.choice.lane in
      let put = put-of rx_own run.queues run.received.queues.turns u.producer u.index u.turn u.is in
      let seat : ℕ = run.queues.seat u.producer in
      let here : Has (rx_own seat) put.0 (put_step lane id u.turn.hash u.turn.answer) =
      subst (λ x. Has (rx_own seat) put.0 (put_step lane x u.turn.hash u.turn.answer)) u.same_id
      put.1 in
      let same = turns_put_once rx_own run.queues rx-turns seat q put.0 k lane l id u.turn.hash hash
      u.turn.answer answer here does in
      let made = said lane l id id u.turn.hash hash u.turn.answer answer
      (Rattle.hop_rule.proofs.Lists.some-is (put_step lane id u.turn.hash u.turn.answer)
      (put_step l id hash answer)
      (sym here ∙ ((λ j. nth_step (rx_own (same.0 j)) (same.1 j)) ∙ does))) in
      sym (ap (λ (m : PutMade). m.hash) made)
      ∙ (run.received.queues.hashes u.producer u.index u.turn u.is
      ∙ ap (packet_hash (setup_in i)) u.same_id)

  pub drops : DropsAreExplained i h
  drops =
      drops_follow run.rx rx_own run.rx_lists rx-facts.causes rx-facts.rise rx-facts.counted i h
      run.received.board own-hash

  -- ---- 8: the end

  rx-retired : AllRetired run.rx rx_own
  rx-retired =
      ends.totals_suffice run.rx rx_own run.rx_lists rx-facts.sums rx-facts.served rx-facts.turn
      run.received.retired

  tx-retired : AllRetired run.tx tx_own
  tx-retired =
      ends.totals_suffice run.tx tx_own run.tx_lists tx-facts.sums tx-facts.served tx-facts.turn
      run.sent.retired

  replied : AllReplied run.rx rx_own h
  replied =
      replies_suffice run.rx rx_own run.rx_lists rx-facts.fit rx-facts.gives.within rx-facts.places
      rx-facts.served rx-facts.outs rx-facts.sums rx-facts.turn rx-retired h
      run.received.board.inboxes
      (transmits.front i h run.rx rx_own run.rx_lists rx-facts run.received.board.inboxes
      inboxes-stand run.tx tx_own run.tx_lists tx-facts run.tries run.applications run.maps_seen
      within run.sent) run.replied

  rx-done : All IsDone run.rx_lists.lanes
  rx-done =
      ends.lanes_done run.rx rx_own run.rx_lists rx-facts.counted rx-facts.sums rx-facts.served
      rx-facts.turn rx-facts.stand rx-facts.places rx-retired

  tx-done : All IsDone run.tx_lists.lanes
  tx-done =
      ends.lanes_done run.tx tx_own run.tx_lists tx-facts.counted tx-facts.sums tx-facts.served
      tx-facts.turn tx-facts.stand tx-facts.places tx-retired

  -- a packet that arrived was put
  pub arrival-ends : (p j x : ℕ) → slice_get (run.queues.arrivals p) j ≡ Some x
      → ((a : ℕ) × (is_in x (list_at h.inboxes a) ≡ true))
      ⊎ ((c : ℕ) × (is_in x (drop_ids (lane_at h.lanes c)) ≡ true))
  arrival-ends p j x at =
      let ids = run.received.queues.turns.all_chosen p in
      let inside = slice_get_within (run.queues.arrivals p) j x at in
      let size = ap length ids in
      let many = length-map (run.queues.choices p) (λ (c : Chosen). c.id) in
      let less : j < length (run.queues.choices p) = omega arith in
      let u = turn-at rx_own run.queues run.received.queues.turns p j
      (get_or (run.queues.choices p) j nobody)
      (slice_get-get_or (run.queues.choices p) j nobody less) in
      let same : u.0.chosen.id ≡ x =
      Rattle.hop_rule.proofs.Lists.some-is u.0.chosen.id x
      (sym (rx-turns.arrived p j u.0 u.1) ∙ at) in
      let put = put-of rx_own run.queues run.received.queues.turns p j u.0 u.1 in
      elim (ends.puts_end run.rx rx_own run.rx_lists rx-facts.counted rx-facts.sums rx-facts.served
      rx-facts.turn rx-facts.stand rx-facts.places rx-retired (run.queues.seat p) put.0
      u.0.chosen.choice.lane u.0.chosen.id u.0.hash u.0.answer put.1) [
        | inl w ↦ inl (
          w.to,
          ap (λ ls. is_in x (list_at ls w.to)) run.received.board.inboxes
              ∙ in_at x w.index (list_at run.rx_lists.outs w.to)
              (w.stands ∙ ap (λ n. Some n) same),
        )
        | inr d ↦ inr (
          u.0.chosen.choice.lane,
          (λ k. is_in (sym same k) (drop_ids (lane_at (run.received.board.lanes k)
              u.0.chosen.choice.lane))) ∙ d,
        )
      ]

  pub all-replied : (a : ℕ) → replies_of h a ≡ list_at h.inboxes a
  all-replied a =
      elim (Rattle.std.proofs.lemmas.Bool.cases_lt a run.rx.outs) [
        | inl less ↦
            all_are_sent run.rx rx_own run.rx_lists rx-facts.outs h a less
            run.received.board.inboxes
            (transmits.front i h run.rx rx_own run.rx_lists rx-facts run.received.board.inboxes
            inboxes-stand run.tx tx_own run.tx_lists tx-facts run.tries run.applications
            run.maps_seen
            within run.sent a) replied
        | inr past ↦
            (let sents = run.sent.applications.sent_lists in
            let outs = run.received.board.out_count in
            let lists = ap length run.received.board.inboxes in
            let count = rx-facts.counted.outs in
            let a1 : length h.sent ≤ a = omega arith in
            let a2 : length h.inboxes ≤ a = omega arith in
            ap (λ ss. map (λ s. s.id) ss) (get_or-eq_default h.sent [] a1)
            ∙ sym (get_or-eq_default h.inboxes [] a2))
      ]

  -- a packet that was replied to is one of the capture
  pub reply-known : (a k x : ℕ) → slice_get (run.applications.arrivals a) k ≡ Some x
      → x < length i.packets
  reply-known a k x at =
      let inbox = transmits.reply-in-inbox i h run.rx rx_own run.rx_lists rx-facts
      run.received.board.inboxes inboxes-stand run.tx tx_own run.tx_lists tx-facts run.tries
      run.applications run.maps_seen within run.sent a k x at in
      let f = stand.came-from run.rx rx_own run.rx_lists rx-facts run.queues
      run.received.queues.turns rx-turns rx-once h.choices run.received.queues.choices a k x
      (ap (λ ls. slice_get (list_at ls a) k) (sym run.received.board.inboxes) ∙ inbox) in
      let p = stand.accepted-arrived run.rx rx_own run.rx_lists rx-facts run.queues
      run.received.queues.turns rx-turns rx-once h.choices run.received.queues.choices f.lane
      f.index
      x f.stands_at in
      rx-known p.0 p.1 x p.2

  -- a packet of an inbox left
  inbox-leaves : (a x : ℕ) → is_in x (list_at h.inboxes a) ≡ true → is_in x h.port ≡ true
  inbox-leaves a x is =
      let n = at_in x (list_at h.inboxes a) is in
      let reply : slice_get (run.applications.arrivals a) n.0 ≡ Some x =
      ap (λ xs. slice_get xs n.0) (run.sent.applications.replies a ∙ all-replied a) ∙ n.1 in
      let ids = run.sent.applications.turns.all_chosen a in
      let inside = slice_get_within (run.applications.arrivals a) n.0 x reply in
      let size = ap length ids in
      let many = length-map (run.applications.choices a) (λ (c : Chosen). c.id) in
      let less : n.0 < length (run.applications.choices a) = omega arith in
      let u = turn-at tx_own run.applications run.sent.applications.turns a n.0
      (get_or (run.applications.choices a) n.0 nobody)
      (slice_get-get_or (run.applications.choices a) n.0 nobody less) in
      let same : u.0.chosen.id ≡ x =
      Rattle.hop_rule.proofs.Lists.some-is u.0.chosen.id x
      (sym (tx-turns.arrived a n.0 u.0 u.1) ∙ reply) in
      let put = put-of tx_own run.applications run.sent.applications.turns a n.0 u.0 u.1 in
      elim (ends.puts_end run.tx tx_own run.tx_lists tx-facts.counted tx-facts.sums tx-facts.served
      tx-facts.turn tx-facts.stand tx-facts.places tx-retired (run.applications.seat a) put.0
      u.0.chosen.choice.lane u.0.chosen.id u.0.hash u.0.answer put.1) [
        | inl w ↦
            (let g = (tx-facts.gives.within (puller run.tx u.0.chosen.choice.lane) w.step w.to
            u.0.chosen.choice.lane u.0.chosen.id w.place w.does).0 in
            let one = run.sent.board.out_count in
            let first : w.to ≡ 0 = omega arith in
            ap (is_in x) run.sent.board.port
            ∙ in_at x w.index (list_at run.tx_lists.outs 0)
            (ap (λ o. slice_get (list_at run.tx_lists.outs o) w.index) (sym first)
            ∙ (w.stands ∙ ap (λ n. Some n) same)))
        | inr d ↦
            (let none = transmits.no-drops i h run.rx rx_own run.rx_lists rx-facts
            run.received.board.inboxes inboxes-stand run.tx tx_own run.tx_lists tx-facts run.tries
            run.applications run.maps_seen within run.sent u.0.chosen.choice.lane in
            absurd (dropped-none u.0.chosen.id
            (lane_at run.tx_lists.lanes u.0.chosen.choice.lane).drops
            (ap (λ ls. (lane_at ls u.0.chosen.choice.lane).drops) (sym run.sent.board.lanes) ∙ none)
            d))
      ]
    where
      dropped-none : (x : ℕ) (ds : List LaneDrop) → ds ≡ []
          → is_in x (map (λ (d : LaneDrop). d.id) ds) ≡ true → ⊥
      dropped-none x ds none is =
          apart (sym (ap (λ zs. is_in x (map (λ (d : LaneDrop). d.id) zs)) none) ∙ is)
        where
          apart : false ≡ true → ⊥
          apart e = absurd (cc)

  pub swept : IsSwept h
  swept = record {
    ended = λ x is.
        (let w = arrived_somewhere h.arrivals x is in
        arrival-ends w.0 w.1 x
        (ap (λ xs. slice_get xs w.1) (run.received.queues.arrivals w.0) ∙ w.2));
    lanes = subst (All IsDone) (sym run.received.board.lanes) rx-done;
    tx_lanes = subst (All IsDone) (sym run.sent.board.lanes) tx-done;
    sent = λ a x is. ap (is_in x) (all-replied a) ∙ is;
    shipped = inbox-leaves;
  }

  -- ---- 10: commands

  pub commands : CommandsAreGiven i h
  commands =
      commands_follow i h run.tries run.rx run.tx rx_own tx_own run.rx_lists run.tx_lists
      (record {
        start = run.received.board.start;
        lanes_are = run.received.board.lanes;
        own_list = run.received.tries_are.own_list;
        busy =
            busy_lanes run.rx rx_own run.rx_lists rx-facts.fit rx-facts.heads rx-facts.below
            rx-facts.turn;
      })
      (record {
        start = run.sent.board.start;
        lanes_are = run.sent.board.lanes;
        own_list = run.sent.tries_are.own_list;
        busy =
            busy_lanes run.tx tx_own run.tx_lists tx-facts.fit tx-facts.heads tx-facts.below
            tx-facts.turn;
      })
      run.received.tries_are.commands run.commands.given run.commands.answered

  -- ---- 11: order from end to end

  both-of : (a b : Bool) → (a && b) ≡ true → (a ≡ true) × (b ≡ true)
  both-of true b e = (refl, e)
  both-of false b e = absurd (cc)

  same-app : (x y : ℕ) → x < length i.packets → y < length i.packets
      → flow_number_of (setup_in i) y ≡ flow_number_of (setup_in i) x
      → app_for (setup_in i) y ≡ app_for (setup_in i) x
  same-app x y less small same =
      ap (λ o. app_of o (setup_in i).apps)
      (sym (run.input.hashes y small) ∙ (ap (hash_of_flow i) same ∙ run.input.hashes x less))

  pub leave : LeaveInOrder i h
  leave = record {
    order = λ a x less.
        transmits.in-order i h run.rx rx_own run.rx_lists rx-facts run.received.board.inboxes
        inboxes-stand run.tx tx_own run.tx_lists tx-facts run.tries run.applications
        run.maps_seen
        within run.sent a x;
    end_to_end = λ q x less.
        (let a : ℕ = app_for (setup_in i) x in
        end_to_end (of_flow i h q x) (of_reply i h a x) (arrivals_at h.arrivals q)
        (list_at h.inboxes a) (replies_of h a) h.port (map (λ lane. lane.drops) h.lanes)
        (map (λ lane. lane.drops) h.tx_lanes)
        (receives.in-order i h run.rx rx_own run.rx_lists rx-facts run.tries run.queues
        run.queues_seen run.input run.commands run.received q x less)
        (transmits.front i h run.rx rx_own run.rx_lists rx-facts run.received.board.inboxes
        inboxes-stand run.tx tx_own run.tx_lists tx-facts run.tries run.applications
        run.maps_seen
        within run.sent a)
        (λ c. none-at h.tx_lanes c (transmits.no-drops i h run.rx rx_own run.rx_lists rx-facts
        run.received.board.inboxes inboxes-stand run.tx tx_own run.tx_lists tx-facts run.tries
        run.applications run.maps_seen within run.sent c))
        (transmits.in-order i h run.rx rx_own run.rx_lists rx-facts run.received.board.inboxes
        inboxes-stand run.tx tx_own run.tx_lists tx-facts run.tries run.applications
        run.maps_seen
        within run.sent a x)
        (λ y is set. wider-port q x y less is set)
        (λ y is set. wider-of a q x y is set));
  }
    where
      none-at : (lanes : List LaneList) (c : ℕ) → (lane_at lanes c).drops ≡ []
          → get_or (map (λ (l : LaneList). l.drops) lanes) c [] ≡ []
      none-at [] c none = refl
      none-at (l ∷ lanes) zero none = none
      none-at (l ∷ lanes) (suc c) none = none-at lanes c none

      wider-of : (a q x y : ℕ) → is_in y (replies_of h a) ≡ true → of_flow i h q x y ≡ true
          → of_reply i h a x y ≡ true
      wider-of a q x y is set =
          let b = both-of (is_in y (arrivals_at h.arrivals q))
          (flow_number_of (setup_in i) y == flow_number_of (setup_in i) x) set in
          (λ k. is k && b.1 k)

      wider-port : (q x y : ℕ) → x < length i.packets → is_in y h.port ≡ true
          → of_flow i h q x y ≡ true → of_reply i h (app_for (setup_in i) x) x y ≡ true
      wider-port q x y less is set =
          let b = both-of (is_in y (arrivals_at h.arrivals q))
          (flow_number_of (setup_in i) y == flow_number_of (setup_in i) x) set in
          let arrived = at_in y (arrivals_at h.arrivals q) b.0 in
          let small = rx-known q arrived.0 y
          (ap (λ xs. slice_get xs arrived.0) (run.received.queues.arrivals q) ∙ arrived.1) in
          let r = transmits.port-replied i h run.rx rx_own run.rx_lists rx-facts
          run.received.board.inboxes inboxes-stand run.tx tx_own run.tx_lists tx-facts run.tries
          run.applications run.maps_seen within run.sent y is in
          let inbox = transmits.reply-in-inbox i h run.rx rx_own run.rx_lists rx-facts
          run.received.board.inboxes inboxes-stand run.tx tx_own run.tx_lists tx-facts run.tries
          run.applications run.maps_seen within run.sent r.0 r.1 y r.2 in
          let app : app_for (setup_in i) y ≡ r.0 =
          (receives.are-delivered i h run.rx rx_own run.rx_lists rx-facts run.tries run.queues
          run.queues_seen run.input run.commands run.received).own r.0 y
          (in_at y r.1 (list_at h.inboxes r.0) inbox) in
          let a_is : r.0 ≡ app_for (setup_in i) x =
          sym app ∙ same-app x y less small
          (eqb-true (flow_number_of (setup_in i) y) (flow_number_of (setup_in i) x) b.1) in
          let there : is_in y (replies_of h (app_for (setup_in i) x)) ≡ true =
          ap (λ a. is_in y (replies_of h a)) (sym a_is)
          ∙ in_at y r.1 (replies_of h r.0)
          (ap (λ xs. slice_get xs r.1) (sym (run.sent.applications.replies r.0)) ∙ r.2) in
          (λ k. there k && b.1 k)

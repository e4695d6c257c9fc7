-- A poller's record of its turns, after a poll and beside other actors.
use Rattle.std.proofs.Common.{is_some}
use Rattle.std.specs.Prelude.{nat_lt}
use Rattle.std.specs.List.{filter_map}
use Rattle.std.proofs.lemmas.Bool.Decides.{nat_tests}
use Rattle.std.proofs.lemmas.List.Elements.{All-nil}
use Rattle.rtrb.specs.Ring.{received}
use Rattle.run_workers.specs.Hands.Pollers.{Takes, class_read, socket_entry}
use Rattle.run_workers.proofs.Names.{◌≡◌, ◌⊎◌, inl, inr, ℕ, ◌<◌, List, [], ◌∷◌, ◌++◌, Bool, true}
use Rattle.run_workers.proofs.Names.{false, Option, None, Some, IfSome, if◌then◌else◌, length, map}
use Rattle.run_workers.proofs.Names.{sym, refl, ap, ◌∙◌, subst, arith, map-append, All-cons}
use Rattle.run_workers.proofs.Names.{filter_map-append, StepBy, step_by, steps_of, SeatView, grown}
use Rattle.run_workers.proofs.Names.{Chosen, Table, HintStep, nth-inside, BoardSeatView, Gate, Left}
use Rattle.run_workers.proofs.Names.{Turned, Explained, Turn, explained_more, Setup, packet_hash}
use Rattle.run_workers.proofs.Names.{socket_size_in, FindsClosed, IsPoller, LoadsQueue, SteersHand}
use Rattle.run_workers.proofs.Names.{Visits, Waits, count_after, refreshed, Poller, Grows}
use Rattle.run_workers.proofs.Names.{TurnsGrow, Mark, BoardStep, visit_with}
use Rattle.board_api.specs.StepWords.{openings_in}
use Rattle.run_workers.proofs.Hands.ReadLemmas.{are_grown}
use Rattle.run_workers.proofs.Hands.VisitLemmas.{visits_explain}
use Rattle.run_workers.specs.Records.Growth.{held}
use Rattle.run_workers.specs.Records.Polling.{AllPolled, HasLookedUp, IsLastLook, IsLastMark}
use Rattle.run_workers.specs.Records.Polling.{IsPolled, IsPolling, PolledTurn, choices_in}
use Rattle.run_workers.specs.Records.Polling.{last_flows, packet_of_number, ring_packets}
use Rattle.run_workers.specs.Records.Polling.{polled_table}
use Rattle.run_workers.specs.Records.PollingLaws.{PollersBegin, PollersGoOn, PollersStay, PollsOn}
use Rattle.run_workers.proofs.Records.StoringLemmas.{at_most_stores, visit_stores}
use Rattle.run_workers.proofs.Records.HintLemmas.{asks_stay, done_last, look_at, look_below}
use Rattle.run_workers.proofs.Records.HintLemmas.{load_grow, looked_stays, looked_up, looks_stay}
use Rattle.run_workers.proofs.Records.HintLemmas.{polls_keep_hints, steps_one, waits_load}
use Rattle.run_workers.proofs.Records.ListLemmas.{append_none, grows_both, noted_more, nth_later}
use Rattle.run_workers.proofs.Records.ListLemmas.{own_turn}
use Rattle.run_workers.proofs.Records.ReplyingLemmas.{adds_grow, gate_grow}
use Rattle.run_workers.proofs.Hands.WaitLemmas.{waits_at_board}

abbrev Hint : Type 0
Hint = SeatView HintStep

module _ (first start : ℕ) (given : Setup) (packets q : ℕ) (rx rx_after : List BoardStep)
    (ds es : List HintStep) (rx_stay : Grows rx rx_after) (stay : Grows ds es) where
  polled_stays : (ss : List PolledTurn) (s : PolledTurn)
      → IsPolled first start given packets q rx ds ss s
      → IsPolled first start given packets q rx_after es ss s
  polled_stays ss s x =
      record {
        within = x.within;
        hash = x.hash;
        reads = are_grown (length given.homes) q s.reading (openings_in s.turn.word) rx rx_after
            rx_stay x.reads;
        want = x.want;
        looks = looked_stays given.cpus _ ds es s.look x.want stay x.looks;
        last = x.last;
        marked = nth_later ds es s.mark _ stay x.marked;
        marked_late = x.marked_late;
        marked_last = x.marked_last;
        head = x.head;
        loads = x.loads;
        looked = x.looked;
        rule = x.rule;
      }

  pub all_stay : (ss : List PolledTurn) → AllPolled first start given packets q rx ds ss
      → AllPolled first start given packets q rx_after es ss
  all_stay [] all = all
  all_stay (s ∷ ss) all = (polled_stays ss s all.0, all_stay ss all.1)

-- the looks of all turns are below the number of steps
looks_below : (first start : ℕ) (given : Setup) (packets q : ℕ) (rx : List BoardStep)
    (ds : List HintStep) (ss : List PolledTurn) → AllPolled first start given packets q rx ds ss
    → IsLastLook ss (length ds)
looks_below first start given packets q rx ds [] all =
    All-nil (λ (s : PolledTurn). IfSome s.look (λ m. m < length ds))
looks_below first start given packets q rx ds (s ∷ ss) all =
    All-cons (λ (s : PolledTurn). IfSome s.look (λ m. m < length ds)) s ss
    (look_below given.cpus _ ds s.look all.0.want all.0.looks)
    (looks_below first start given packets q rx ds ss all.1)

-- and so are their marks
marks_below : (first start : ℕ) (given : Setup) (packets q : ℕ) (rx : List BoardStep)
    (ds : List HintStep) (ss : List PolledTurn) → AllPolled first start given packets q rx ds ss
    → IsLastMark ss (length ds)
marks_below first start given packets q rx ds [] all =
    All-nil (λ (s : PolledTurn). s.mark < length ds)
marks_below first start given packets q rx ds (s ∷ ss) all =
    All-cons (λ (s : PolledTurn). s.mark < length ds) s ss
    (nth-inside ds s.mark _ all.0.marked)
    (marks_below first start given packets q rx ds ss all.1)

pub pollers_begin : PollersBegin
pollers_begin given first start p turns marks rx hints hand flows items accepted table ring own
    own_marks =
    record {
      polled = [];
      own = sym own;
      marked = sym own_marks;
      journal = items ∙ sym (ap choices_in own);
      taken = ap (ring_packets p.choices.room) ring
          ∙ sym (λ i. map (λ (c : Chosen). c.id) (items i) ++ held (hand i));
      flows = flows;
      table = table;
      accepted = accepted;
      are = tt;
    }

pub pollers_stay : PollersStay
pollers_stay given first start p turns more marks more_marks rx rx_after hints after same same_marks
    rx_stay stay x =
    record {
      polled = x.polled;
      own = x.own ∙ sym same;
      marked = x.marked ∙ sym same_marks;
      journal = x.journal ∙ sym (ap choices_in same);
      taken = x.taken;
      flows = x.flows;
      table = x.table;
      accepted = x.accepted;
      are = all_stay first start given p.choices.room p.queue rx rx_after hints after rx_stay stay
          x.polled x.are;
    }

-- ---- taking from the ring

module _ (given : Setup) (first start : ℕ) (p mid : Poller) (turns : List (StepBy Turn))
    (marks : List (StepBy Mark)) (rx : List BoardStep) (hints : List HintStep) where
  -- the packets of a ring from which one number more came
  ring_more : (x : ℕ) → received mid.ring ≡ received p.ring ++ x ∷ []
      → mid.hand ≡ (if nat_lt x p.choices.room then Some x else None)
      → ring_packets p.choices.room (received mid.ring)
      ≡ ring_packets p.choices.room (received p.ring) ++ held mid.hand
  ring_more x ring hand =
      ap (ring_packets p.choices.room) ring
      ∙ (filter_map-append (packet_of_number p.choices.room) (received p.ring) (x ∷ [])
      ∙ ap (λ zs. ring_packets p.choices.room (received p.ring) ++ zs)
      (one (nat_lt x p.choices.room) ∙ sym (ap held hand)))
    where
      one : (b : Bool)
          → filter_map (λ (y : ℕ). if b then Some x else None) (x ∷ [])
          ≡ held (if b then Some x else None)
      one true = refl
      one false = refl

  taken_more : (took : Bool) → Takes p mid took
      → ring_packets p.choices.room (received p.ring)
      ≡ map (λ (c : Chosen). c.id) p.choices.items ++ held p.hand
      → ring_packets p.choices.room (received mid.ring)
      ≡ map (λ (c : Chosen). c.id) p.choices.items ++ held mid.hand
  taken_more false (ring, hand) is =
      ap (ring_packets p.choices.room) ring
      ∙ (is ∙ ap (λ h. map (λ (c : Chosen). c.id) p.choices.items ++ held h) (sym hand))
  taken_more true (x, empty, ring, hand) is =
      ring_more x ring hand
      ∙ ap (λ zs. zs ++ held mid.hand)
      (is ∙ (ap (λ h. map (λ (c : Chosen). c.id) p.choices.items ++ held h) empty
      ∙ append_none (map (λ (c : Chosen). c.id) p.choices.items)))

  pub took_is : (took : Bool) → Takes p mid took
      → mid ≡ record p { hand = mid.hand; ring = mid.ring }
      → IsPolling given first start p turns marks rx hints
      → IsPolling given first start mid turns marks rx hints
  took_is took takes same x =
      subst (λ z. IsPolling given first start z turns marks rx hints) (sym same) (record {
        polled = x.polled;
        own = x.own;
        marked = x.marked;
        journal = x.journal;
        taken = taken_more took takes x.taken;
        flows = x.flows;
        table = x.table;
        accepted = x.accepted;
        are = x.are;
      })

-- ---- a turn

module _ (given : Setup) (filters first start id : ℕ) (mid q : Poller) (turns : List (StepBy Turn))
    (marks : List (StepBy Mark)) (old new : BoardSeatView) (hint_old hint_new : Hint)
    (hand : mid.hand ≡ Some id) (within : id < mid.choices.room)
    (steers : SteersHand given filters id mid q old new hint_old hint_new)
    (x : IsPolling given first start mid turns marks old.steps hint_old.steps) where
  abbrev turn : Turn
  turn = steers.turn

  -- the visit by the flow word and the table of the turns so far
  abbrev visit : Visits given filters mid.queue (last_flows first start x.polled) q.flows
      (polled_table first start x.polled) q.table mid.accepted q.accepted turn old new
      steers.hint_mid hint_new
  visit =
      subst (λ (z : ℕ × Table). Visits given filters mid.queue z.0 q.flows z.1 q.table mid.accepted
      q.accepted turn old new steers.hint_mid hint_new) (λ i. (x.flows i, x.table i)) steers.visit

  -- the entry at which it looked up the socket flow table
  abbrev entry : Option ℕ
  entry =
      socket_entry (socket_size_in visit.reading.socket)
      (class_read given turn.chosen.id
      (refreshed (last_flows first start x.polled) visit.reading.flows
      (polled_table first start x.polled)))
      (packet_hash given turn.chosen.id)

  -- the steps before its look and before its mark
  abbrev look_step : ℕ
  look_step = length steers.hint_mid.steps

  abbrev mark_step : ℕ
  mark_step = length visit.hint_mid.steps

  abbrev polled_turn : PolledTurn
  polled_turn = record {
    turn = turn;
    reading = visit.reading;
    look = look_at entry look_step;
    mark = mark_step;
  }

  abbrev mark : Mark
  mark = record { packet = turn.chosen.id; number = mark_step }

  hints_stay : Grows hint_old.steps hint_new.steps
  hints_stay =
      polls_keep_hints given filters mid q old new hint_old hint_new (record {
        mid = mid;
        took = false;
        takes = (refl, refl);
        none = λ same. inl (ap is_some hand);
        same = refl;
        steers = inr (id, hand, steers);
      })

  board_stay : Grows old.steps new.steps
  board_stay = adds_grow (visit_with turn [] []) old new steers.visit.adds

  loaded_stay : Grows hint_old.steps steers.hint_mid.steps
  loaded_stay = steps_one _ hint_old steers.hint_mid steers.loads

  looked_stay : Grows steers.hint_mid.steps visit.hint_mid.steps
  looked_stay = looks_stay given.cpus entry steers.hint_mid visit.hint_mid visit.want visit.looks

  asked_stay : Grows visit.hint_marked.steps hint_new.steps
  asked_stay =
      asks_stay given filters turn.chosen.id turn.chosen.choice turn.answer visit.hint_marked
      hint_new visit.asks

  marked_stay : Grows visit.hint_mid.steps hint_new.steps
  marked_stay =
      grows_both visit.hint_mid.steps visit.hint_marked.steps hint_new.steps
      (steps_one _ visit.hint_mid visit.hint_marked visit.marks) asked_stay

  looked_now : HasLookedUp given.cpus entry visit.hint_mid.steps polled_turn.look visit.want
  looked_now =
      looked_up given.cpus entry steers.hint_mid visit.hint_mid visit.want visit.looks

  -- all looks and marks so far are among the steps so far
  is_last : (o : Option ℕ) → IfSome (look_at o look_step) (IsLastLook x.polled)
  is_last None = tt
  is_last (Some e) =
      looks_below first start given mid.choices.room mid.queue old.steps steers.hint_mid.steps
      x.polled
      (all_stay first start given mid.choices.room mid.queue old.steps old.steps hint_old.steps
      steers.hint_mid.steps ([], refl) loaded_stay x.polled x.are)

  is_last_mark : IsLastMark x.polled mark_step
  is_last_mark =
      marks_below first start given mid.choices.room mid.queue old.steps visit.hint_mid.steps
      x.polled
      (all_stay first start given mid.choices.room mid.queue old.steps old.steps hint_old.steps
      visit.hint_mid.steps ([], refl)
      (grows_both hint_old.steps steers.hint_mid.steps visit.hint_mid.steps loaded_stay
      looked_stay) x.polled x.are)

  is_polled : IsPolled first start given mid.choices.room mid.queue new.steps hint_new.steps
      x.polled polled_turn
  is_polled =
      record {
        within = subst (λ n. n < mid.choices.room) (sym steers.id_is) within;
        hash = visit.hash;
        reads = visit.reads;
        want = visit.want;
        looks = looked_stays given.cpus entry visit.hint_mid.steps hint_new.steps polled_turn.look
            visit.want marked_stay looked_now;
        last = is_last entry;
        marked = nth_later visit.hint_marked.steps hint_new.steps mark_step _ asked_stay
            (done_last _ visit.hint_mid visit.hint_marked visit.marks);
        marked_late = look_below given.cpus entry visit.hint_mid.steps polled_turn.look visit.want
            looked_now;
        marked_last = is_last_mark;
        head = visit.head;
        loads = visit.loads;
        looked = visit.looked;
        rule = visit.rule;
      }

  taken_all : ring_packets mid.choices.room (received mid.ring)
      ≡ map (λ (c : Chosen). c.id) (mid.choices.items ++ turn.chosen ∷ []) ++ []
  taken_all =
      x.taken
      ∙ (ap (λ h. map (λ (c : Chosen). c.id) mid.choices.items ++ held h)
      (hand ∙ ap (λ n. Some n) (sym steers.id_is))
      ∙ (sym (map-append (λ (c : Chosen). c.id) mid.choices.items (turn.chosen ∷ []))
      ∙ sym (append_none (map (λ (c : Chosen). c.id) (mid.choices.items ++ turn.chosen ∷ [])))))

  steered_is : IsPolling given first start (record mid {
    hand = None;
    flows = visit.reading.flows;
    table = q.table;
    choices = grown mid.choices turn.chosen;
    accepted = q.accepted;
    kept = q.kept;
  }) (step_by mid.queue turn ∷ turns) (step_by mid.queue mark ∷ marks) new.steps hint_new.steps
  steered_is =
      record {
        polled = polled_turn ∷ x.polled;
        own = ap (λ us. turn ∷ us) x.own ∙ sym (own_turn mid.queue turn turns);
        marked = ap (λ ms. mark ∷ ms) x.marked ∙ sym (own_turn mid.queue mark marks);
        journal = ap (λ cs. cs ++ turn.chosen ∷ []) x.journal
            ∙ (sym (noted_more (λ (u : Turn). u.chosen) turn (steps_of mid.queue turns))
            ∙ sym (ap choices_in (own_turn mid.queue turn turns)));
        taken = taken_all;
        flows = refl;
        table = visit.table;
        accepted = visit.count ∙ ap (λ n. count_after n turn.answer) x.accepted;
        are = (
          is_polled,
          all_stay first start given mid.choices.room mid.queue old.steps new.steps
              hint_old.steps hint_new.steps board_stay hints_stay x.polled x.are,
        );
      }

  pub steers_on : Explained old.steps turns
      → PollsOn given filters first start mid q turns marks new hint_old hint_new
  steers_on explained =
      record {
        more = step_by mid.queue turn ∷ turns;
        grow = inr (turn, refl);
        more_marks = step_by mid.queue mark ∷ marks;
        marks_grow = inr (mark, refl);
        explained = visits_explain given filters mid.queue mid.flows q.flows mid.table q.table
            mid.accepted q.accepted turn old new steers.hint_mid hint_new steers.visit turns
            explained;
        keeps = subst (λ z. IsPolling given first start z (step_by mid.queue turn ∷ turns)
            (step_by mid.queue mark ∷ marks) new.steps hint_new.steps)
            (sym (steers.same ∙ (λ i. record mid {
              hand = None;
              flows = visit.word i;
              table = q.table;
              choices = steers.choices i;
              accepted = q.accepted;
              kept = q.kept;
            })))
            steered_is;
        stores = λ noted before. visit_stores given filters mid.queue
            (last_flows first start x.polled) q.flows (polled_table first start x.polled) q.table
            mid.accepted q.accepted turn old new hint_old steers.hint_mid hint_new steers.word
            (subst (λ n. LoadsQueue n steers.word hint_old steers.hint_mid) (sym steers.id_is)
            steers.loads) steers.announced visit turns marks noted before;
      }

-- ---- a poll

module _ (given : Setup) (filters first start : ℕ) (mid q : Poller) (turns : List (StepBy Turn))
    (marks : List (StepBy Mark)) (old new : BoardSeatView) (hint_old hint_new : Hint) where
  still : (new ≡ old) ⊎ FindsClosed old new → Explained old.steps turns
      → Explained new.steps turns
  still (inl same) explained =
      subst (λ (s : BoardSeatView). Explained s.steps turns) (sym same) explained
  still (inr closed) explained =
      subst (λ ds. Explained ds turns) (sym (ap (λ (s : BoardSeatView). s.steps) closed.1))
      (explained_more (Gate Left ∷ Gate (Turned closed.0) ∷ []) old.steps turns refl explained)

  waits_on : Waits mid q old new hint_old hint_new → Explained old.steps turns
      → IsPolling given first start mid turns marks old.steps hint_old.steps
      → PollsOn given filters first start mid q turns marks new hint_old hint_new
  waits_on waits explained x =
      let loads = waits_load mid q old new hint_old hint_new waits in record {
        more = turns;
        grow = inl refl;
        more_marks = marks;
        marks_grow = inl refl;
        explained = still (waits_at_board mid q old new hint_old hint_new waits) explained;
        keeps = subst (λ z. IsPolling given first start z turns marks new.steps hint_new.steps)
            (sym waits.same)
            (pollers_stay given first start mid turns turns marks marks old.steps new.steps
            hint_old.steps hint_new.steps refl refl
            (gate_grow old new (waits_at_board mid q old new hint_old hint_new waits))
            (load_grow hint_old hint_new loads) x);
        stores = λ noted. at_most_stores given filters turns marks noted hint_old hint_new loads;
      }

-- the number in hand after a take names a packet
taken_within : (cpus : ℕ) (p mid : Poller) (took : Bool) → Takes p mid took → IsPoller cpus p
    → IfSome mid.hand (λ id. id < p.choices.room)
taken_within cpus p mid false (ring, hand) is =
    subst (λ h. IfSome h (λ id. id < p.choices.room)) (sym hand) is.hand
taken_within cpus p mid true (x, empty, ring, hand) is =
    subst (λ h. IfSome h (λ id. id < p.choices.room)) (sym hand)
    (by_test (nat_lt x p.choices.room) refl)
  where
    by_test : (b : Bool) → nat_lt x p.choices.room ≡ b
        → IfSome (if b then Some x else None) (λ id. id < p.choices.room)
    by_test true less = grind (arith, nat_tests)
    by_test false less = tt

pub pollers_go_on : PollersGoOn
pollers_go_on given cpus filters first start p q turns marks old new hint_old hint_new polls is
    explained x =
    from_mid (by_case polls.steers)
  where
    mid_is : IsPolling given first start polls.mid turns marks old.steps hint_old.steps
    mid_is = took_is given first start p polls.mid turns marks old.steps hint_old.steps polls.took
        polls.takes polls.same x

    queue : polls.mid.queue ≡ p.queue
    queue = ap (λ (z : Poller). z.queue) polls.same

    within : (id : ℕ) → polls.mid.hand ≡ Some id → id < polls.mid.choices.room
    within id hand =
        subst (λ n. id < n) (sym (ap (λ (z : Poller). z.choices.room) polls.same))
        (subst (λ h. IfSome h (λ n. n < p.choices.room)) hand
        (taken_within cpus p polls.mid polls.took polls.takes is))

    by_case : Waits polls.mid q old new hint_old hint_new
        ⊎ ((id : ℕ) × (polls.mid.hand ≡ Some id)
        × SteersHand given filters id polls.mid q old new hint_old hint_new)
        → PollsOn given filters first start polls.mid q turns marks new hint_old hint_new
    by_case (inl waits) =
        waits_on given filters first start polls.mid q turns marks old new hint_old hint_new waits
        explained mid_is
    by_case (inr (id, hand, steers)) =
        steers_on given filters first start id polls.mid q turns marks old new hint_old hint_new
        hand (within id hand) steers mid_is explained

    from_mid : PollsOn given filters first start polls.mid q turns marks new hint_old hint_new
        → PollsOn given filters first start p q turns marks new hint_old hint_new
    from_mid on =
        record {
          more = on.more;
          grow = subst (λ a. TurnsGrow a turns on.more) queue on.grow;
          more_marks = on.more_marks;
          marks_grow = subst (λ a. TurnsGrow a marks on.more_marks) queue on.marks_grow;
          explained = on.explained;
          keeps = on.keeps;
          stores = on.stores;
        }

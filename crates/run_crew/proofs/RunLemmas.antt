-- The coupling invariants of all threads, put together.
use Rattle.std.proofs.lemmas.List.{length-append}
use Rattle.std.proofs.lemmas.List.Elements.{All-contains}
use Rattle.board_api.specs.Closings.Closings.{own_in}
use Rattle.steer_model.specs.State.Setup.{app_for}
use Rattle.run_coupling.specs.Laws.OneCount.{TotalsAreEqual, choice_count}
use Rattle.run_coupling.specs.Coupling.Deliveries.{AllDeliverTo}
use Rattle.run_coupling.specs.Coupling.Marks.{IsMadeFor, KeepsMarks, MarksAreOfTurns, WasMarked}
use Rattle.run_coupling.specs.Coupling.Marks.{WireIsInTurn, WritesAreMarked}
use Rattle.run_coupling.specs.Coupling.Runs.{IsRun}
use Rattle.run_coupling.proofs.Ends.ChoiceCountLemmas.{choices_suffice}
use Rattle.run_coupling.proofs.Ends.HandLemmas.{empty_hands_retired}
use Rattle.run_coupling.proofs.Lists.SumLemmas.{sum-le}
use Rattle.run_workers.specs.Records.Storing.{StoresAreFor}
use Rattle.run_crew.specs.StoreCoupling.{IsNoted, StoresAreCoupled, StoresAreMeantByEach}
use Rattle.run_crew.specs.StoreCoupling.{WorkersStoresAreMeant}
use Rattle.run_workers.specs.Actors.{IsTurnOfOne}
use Rattle.run_crew.specs.DrainLaws.{DrainsAreCoupled}
use Rattle.run_crew.specs.QueueLaws.{QueuesAreCoupled}
use Rattle.run_crew.specs.ReplyLaws.{ApplicationsCoupled}
use Rattle.run_crew.specs.RunLaws.{EndedRunsAreRuns, RunEnds}
use Rattle.run_crew.proofs.Names.{◌≡◌, ◌⊎◌, inl, inr, ℕ, ◌+◌, ◌%◌, ◌<◌, ◌≤◌, List, [], ◌∷◌, Some}
use Rattle.run_crew.proofs.Names.{length, map, sym, ap, ◌∙◌, subst, arith, slice_get, Contains}
use Rattle.run_crew.proofs.Names.{cases_lt, get_or_past, length-map, length-range_with_len}
use Rattle.run_crew.proofs.Names.{option_map, slice_get-map, StepBy, steps_of, SeatView, Chosen}
use Rattle.run_crew.proofs.Names.{HintStep, Store, arrivals_at, list_at, Arrival, History}
use Rattle.run_crew.proofs.Names.{sum_below, Execution, nth_step, BoardSizes, Input, setup_in}
use Rattle.run_crew.proofs.Names.{packet_hash, StoresAreMeant, ApplicationsAreCoupled, IsMarkedBy}
use Rattle.run_crew.proofs.Names.{PollersAreCoupled, oldest_first, Mark, Note, StoresInTurn}
use Rattle.run_crew.proofs.Names.{actor_at, drains_of, ships_of, Seated, queue_execution}
use Rattle.run_crew.proofs.Names.{reply_execution}
use Rattle.run_crew.proofs.ArrivalLemmas.{arrivals-below, none-at}
use Rattle.run_crew.proofs.ChoiceFunctions.{is-within, item-at}
use Rattle.run_crew.proofs.CountLemmas.{full_counts_suffice}
use Rattle.run_crew.proofs.DrainLemmas.{drains_keep_coupling}
use Rattle.run_crew.proofs.QueueLemmas.{queues_keep_coupling}
use Rattle.run_crew.proofs.QueueTurnLemmas as queues
use Rattle.run_crew.proofs.ReplyLemmas.{applications_keep_coupling}
use Rattle.run_crew.proofs.StoreLemmas.{arrivals-in-turn, arrivals-meant, commands-in-turn}
use Rattle.run_crew.proofs.StoreLemmas.{commands-meant, commands-quiet}
use Rattle.run_crew.proofs.StoreCouplingLemmas.{turn_at}
use Rattle.run_crew.proofs.TurnListLemmas.{nth-oldest}
use Rattle.run_crew.proofs.ExecutionLemmas.{actor-seat, by-seat}

-- What is known of records, in the words of the laws of `coupling_laws` and `laws`.
pub record RecordLaws : Type 0 where
  pub pollers : PollersAreCoupled
  pub applications : ApplicationsAreCoupled
  pub workers : WorkersStoresAreMeant
  pub each : StoresAreMeantByEach

module _ (laws : RecordLaws) (i : Input) (h : History) (e : RunEnds i h) where
  abbrev W : ℕ
  W = length e.crew

  abbrev Q : ℕ
  Q = length i.plan.queues

  -- ---- counts

  sent-coupled : ApplicationsCoupled i h e.t e.crew e.turns (own_in e.rx_seats) (own_in e.tx_seats)
      e.codes e.hint_seats
      (reply_execution e.crew e.turns h.tx_choices (λ a. map (λ s. s.id) (list_at h.sent a)))
  sent-coupled =
      applications_keep_coupling laws.applications i h e.t e.crew e.turns (own_in e.rx_seats)
      (own_in e.tx_seats) e.codes e.hint_seats e.sent e.shared e.hints.workers

  few-choices : choice_count h.choices ≤ length i.packets
  few-choices =
      let below = sum-le (λ q. length (list_at h.choices q))
      (λ q. length (arrivals_at h.arrivals q)) (length h.choices)
      (λ q less.
      let f = e.fronts q in
      let size = length-map (list_at h.choices q) (λ (c : Chosen). c.id) in
      let all = length-append (map (λ (c : Chosen). c.id) (list_at h.choices q)) f.0 in
      let same = ap length f.1 in
      omega (arith, size, all, same)) in
      let most = arrivals-below (length h.choices) h.arrivals in
      let arrived = ap length e.arrivals.arrived in
      let size = length-map h.arrivals (λ (a : Arrival). a.id) in
      let count = length-range_with_len 0 (length i.packets) in
      omega (arith, below, most, arrived, size, count)

  totals : TotalsAreEqual h e.t.rx.sizes (own_in e.rx_seats) e.t.tx.sizes (own_in e.tx_seats)
      (length i.packets)
  totals =
      full_counts_suffice i h e.t e.crew e.turns e.rx_seats e.tx_seats e.rx_lists e.tx_lists
      (length i.packets) e.rx_ended e.tx_ended e.received e.sent e.ships sent-coupled.keeps.found
      e.copied.rx_board.inboxes few-choices e.full

  -- each arrival has its choice
  all-chosen : (q : ℕ) → map (λ (c : Chosen). c.id) (list_at h.choices q)
      ≡ arrivals_at h.arrivals q
  all-chosen q = at (cases_lt q Q)
    where
      total : sum_below (λ p. length (list_at h.choices p)) Q ≡ length h.arrivals
      total =
          let chosen = totals.chosen in
          let arrived = ap length e.arrivals.arrived in
          let size = length-map h.arrivals (λ (a : Arrival). a.id) in
          let count = length-range_with_len 0 (length i.packets) in
          ap (λ n. sum_below (λ p. length (list_at h.choices p)) n)
          (sym e.received.choices_are.count)
          ∙ omega (arith, chosen, arrived, size, count)

      at : (q < Q) ⊎ (Q ≤ q) → map (λ (c : Chosen). c.id) (list_at h.choices q)
          ≡ arrivals_at h.arrivals q
      at (inl less) =
          choices_suffice Q h.arrivals (list_at h.choices) e.within e.fronts total q less
      at (inr more) =
          let count = e.received.choices_are.count in
          ap (map (λ (c : Chosen). c.id))
          (get_or_past h.choices q [] (omega (arith, more, count)))
          ∙ sym (none-at Q h.arrivals e.within q more)

  queues-coupled : QueuesAreCoupled i h e.t e.crew e.turns (own_in e.rx_seats) e.codes
      e.hint_seats
      (queue_execution e.crew e.turns h.choices (arrivals_at h.arrivals))
  queues-coupled =
      queues_keep_coupling laws.pollers i h e.t e.crew e.turns (own_in e.rx_seats) e.codes
      e.hint_seats
      e.received e.shared e.hints.workers e.copied.taken_count e.copied.taken all-chosen

  -- ---- deliveries

  rx-drained : DrainsAreCoupled e.t.rx.sizes e.crew drains_of (app_for e.t.shared.given)
      (own_in e.rx_seats) e.drains
  rx-drained =
      drains_keep_coupling.receives e.t e.crew Q (length i.plan.apps) (own_in e.rx_seats) e.drains
      e.received.work e.received.lists

  tx-drained : DrainsAreCoupled e.t.tx.sizes e.crew ships_of (λ id. 0) (own_in e.tx_seats) e.ships
  tx-drained =
      drains_keep_coupling.transmits e.t e.crew Q (length i.plan.apps) (own_in e.tx_seats) e.ships
      e.sent.work e.sent.lists

  -- ---- stores

  abbrev execution : Execution
  execution = queue_execution e.crew e.turns h.choices (arrivals_at h.arrivals)

  -- what an actor of a seat made is at the place of the actor's number
  actor-place : (about : BoardSizes) (w : ℕ) (x : Seated) → about.seats ≡ W + 1
      → slice_get e.crew w ≡ Some x → (by number k : ℕ) → by ≡ actor_at about number k
      → number ≡ w → by % W ≡ w
  actor-place about w x seats there by number k own is =
      ap (λ n. n % W) (own ∙ ap (λ n. actor_at about n k) is)
      ∙ actor-seat about W w k seats (is-within e.crew w x there)

  -- a write that a worker noted is the history's
  noted-by : (w : ℕ) (x : Seated) → slice_get e.crew w ≡ Some x → (n : StepBy Note)
      → Contains (e.turns w).noted n → IsNoted i h sent-coupled.reply n
  noted-by w x there n has =
      let y = e.received.turns_are.workers w x there in
      let one = All-contains (IsTurnOfOne e.t.tx.sizes x.seats.tx.number
      (length x.worker.servers.items)) y.is.noted n y.is.noted_by
      (subst (λ ns. Contains ns n) (sym y.noted) has) in
      let v = item-at x.worker.servers.items one.0 one.1 in
      let keeps = y.is.servers one.0 v.0 v.1 in
      let app : n.by ≡ v.0.app = one.2 ∙ sym keeps.own in
      let within = keeps.within in
      let count = e.sent.out_count in
      let less : n.by < length i.plan.apps = omega (arith, app, within, count) in
      let seat : n.by % W ≡ w = actor-place e.t.tx.sizes w x e.received.work.tx_count there n.by
      x.seats.tx.number one.0 one.2 (e.received.work.tx_numbers w x there) in
      let made = sent-coupled.made n.by less in
      let notes : List Note = oldest_first (steps_of n.by (e.turns (n.by % W)).noted) in
      let k = turn_at (e.turns w).noted n has in
      let at : slice_get notes k.0 ≡ Some n.step =
      nth-oldest (steps_of n.by (e.turns (n.by % W)).noted) k.0 n.step
      (ap (λ m. nth_step (steps_of n.by (e.turns m).noted) k.0) seat ∙ k.1) in
      record {
        index = k.0;
        is = ap (λ ws. slice_get ws k.0) made.are
            ∙ (slice_get-map (λ (z : Note). z.write) notes k.0
            ∙ ap (option_map (λ (z : Note). z.write)) at);
        made = made.each k.0 n.step at;
      }

  worker-coupled : (w : ℕ) (x : Seated) → slice_get e.crew w ≡ Some x
      → StoresAreCoupled i h e.codes e.hint_seats execution sent-coupled.reply (e.turns w).marks
      x.seats.hint
  worker-coupled w x there =
      let y = e.received.turns_are.workers w x there in
      let s = e.turns w in
      laws.workers i h e.codes e.hint_seats execution w sent-coupled.reply s.marks s.noted
      x.seats.hint e.shared
      (by-seat W Q (own_in e.rx_seats) (λ v. (e.turns v).steered) h.choices
      (queues.board-turns i e.t e.crew e.turns (own_in e.rx_seats) h.choices e.received) w)
      (noted-by w x there)
      (subst (λ g. StoresAreFor g i.plan.filters s.steered s.marks s.noted x.seats.hint.steps)
      e.received.given
      (subst (λ n. StoresAreFor e.t.shared.given n s.steered s.marks s.noted x.seats.hint.steps)
      e.filters
      (subst (λ ts. StoresAreFor e.t.shared.given e.t.shared.filters ts s.marks s.noted
      x.seats.hint.steps) y.steered
      (subst (λ ms. StoresAreFor e.t.shared.given e.t.shared.filters y.is.turns ms s.noted
      x.seats.hint.steps) y.marks
      (subst (λ ns. StoresAreFor e.t.shared.given e.t.shared.filters y.is.turns y.is.marks ns
      x.seats.hint.steps) y.noted y.is.stores)))))

  -- a seat is a worker's, the controller's or the wire's
  abbrev IsSeat : SeatView HintStep → Type 0
  IsSeat seat =
      ((w : ℕ) × (x : Seated) × (slice_get e.crew w ≡ Some x) × (x.seats.hint ≡ seat))
      ⊎ (e.controller ≡ seat) ⊎ (e.wire ≡ seat)

  stores-meant : StoresAreMeant i h e.codes e.hint_seats execution
  stores-meant =
      laws.each i h e.codes execution e.hint_seats (λ seat has. at seat (e.hints.each seat has))
    where
      at : (seat : SeatView HintStep) → IsSeat seat
          → StoresAreMeant i h e.codes (seat ∷ []) execution
      at seat (inl (w, x, there, is)) =
          subst (λ s. StoresAreMeant i h e.codes (s ∷ []) execution) is
          (worker-coupled w x there).meant
      at seat (inr (inl is)) =
          subst (λ s. StoresAreMeant i h e.codes (s ∷ []) execution) is
          (commands-meant i h e.codes execution e.controller e.shared e.t.rx.sizes e.t.tx.sizes
          (own_in e.rx_seats) (own_in e.tx_seats) e.tries e.commands)
      at seat (inr (inr is)) =
          subst (λ s. StoresAreMeant i h e.codes (s ∷ []) execution) is
          (arrivals-meant i h e.codes execution e.wire e.shared e.hint_seats e.arrivals)

  -- ---- their order

  -- the marks of a seat; a seat that is no worker's has none
  abbrev marks-at : (seat : SeatView HintStep) → IsSeat seat → List (StepBy Mark)
  marks-at seat (inl (w, x, there, is)) = (e.turns w).marks
  marks-at seat (inr other) = []

  in-turn : (seat : SeatView HintStep) (s : IsSeat seat)
      → StoresInTurn i h e.codes e.hint_seats execution sent-coupled.reply (marks-at seat s) seat
  in-turn seat (inl (w, x, there, is)) =
      subst (StoresInTurn i h e.codes e.hint_seats execution sent-coupled.reply (e.turns w).marks)
      is (worker-coupled w x there).in_turn
  in-turn seat (inr (inl is)) =
      subst (StoresInTurn i h e.codes e.hint_seats execution sent-coupled.reply []) is
      (commands-in-turn i h e.codes execution e.controller e.shared e.t.rx.sizes e.t.tx.sizes
      (own_in e.rx_seats) (own_in e.tx_seats) e.tries e.commands e.hint_seats sent-coupled.reply)
  in-turn seat (inr (inr is)) =
      subst (StoresInTurn i h e.codes e.hint_seats execution sent-coupled.reply []) is
      (arrivals-in-turn i h e.codes execution e.wire e.shared e.hint_seats e.arrivals
      sent-coupled.reply)

  seat-in-turn : (seat : SeatView HintStep) (has : Contains e.hint_seats seat)
      → StoresInTurn i h e.codes e.hint_seats execution sent-coupled.reply
      (marks-at seat (e.hints.each seat has)) seat
  seat-in-turn seat has = in-turn seat (e.hints.each seat has)

  -- ---- the wire

  wire-in-turn : WireIsInTurn i h e.codes e.hint_seats
  wire-in-turn =
      record {
        wire = e.wire;
        among = e.arrivals.among;
        look = e.arrivals.in_turn.look;
        looks = e.arrivals.in_turn.looks;
        tells = λ seat x y n value hash has le less some at.
            tells seat x y n value hash le some at (e.hints.each seat has);
      }
    where
      tells : (seat : SeatView HintStep) (x y n value hash : ℕ) → x ≤ y
          → packet_hash (setup_in i) x ≡ Some hash
          → nth_step seat.steps n ≡ Some (Store (e.codes.packet y) value) → IsSeat seat
          → (seat ≡ e.wire) × (e.arrivals.in_turn.look x < n)
      tells seat x y n value hash le some at (inl (w, z, there, is)) =
          absurd ((worker-coupled w z there).quiet y n value
          (subst (λ (s : SeatView HintStep). nth_step s.steps n
          ≡ Some (Store (e.codes.packet y) value)) (sym is) at))
      tells seat x y n value hash le some at (inr (inl is)) =
          absurd (commands-quiet i h e.codes execution e.controller e.shared e.t.rx.sizes
          e.t.tx.sizes (own_in e.rx_seats) (own_in e.tx_seats) e.tries e.commands y n value
          (subst (λ (s : SeatView HintStep). nth_step s.steps n
          ≡ Some (Store (e.codes.packet y) value)) (sym is) at))
      tells seat x y n value hash le some at (inr (inr is)) = (
        sym is,
        e.arrivals.in_turn.tells x y n value hash le some
            (subst (λ (s : SeatView HintStep). nth_step s.steps n
            ≡ Some (Store (e.codes.packet y) value)) (sym is) at),
      )

  -- ---- marks

  marked-as : (queue : ℕ) (less : queue < Q) (at seat : SeatView HintStep)
      (marks : List (StepBy Mark)) → at ≡ seat
      → IsMarkedBy i e.codes e.hint_seats execution queue (queues-coupled.seen queue)
      (queues-coupled.wants queue less) at marks → (packet n k : ℕ) (m : Mark)
      → nth_step (steps_of queue marks) k ≡ Some m → m.packet ≡ packet → m.number ≡ n
      → WasMarked i h e.codes e.hint_seats execution queues-coupled.seen queues-coupled.wants seat
      packet n
  marked-as queue less at seat marks same x packet n k m there packet_is number_is =
      let each = x.each k m there in
      record {
        queue = queue;
        within = less;
        index = k;
        turn = each.0;
        is = each.1;
        packet_is = each.2 ∙ packet_is;
        seat_is = x.seat_is ∙ same;
        step_is = each.3 ∙ number_is;
      }

  -- a mark of a worker is of a turn of one of its queues
  mark-of-turn : (w : ℕ) (x : Seated) → slice_get e.crew w ≡ Some x
      → (seat : SeatView HintStep) → x.seats.hint ≡ seat → (packet n : ℕ)
      → ((m : StepBy Mark) × Contains (e.turns w).marks m × (m.step.packet ≡ packet)
      × (m.step.number ≡ n))
      → WasMarked i h e.codes e.hint_seats execution queues-coupled.seen queues-coupled.wants seat
      packet n
  mark-of-turn w x there seat seat_is packet n (m, has, packet_is, number_is) =
      let y = e.received.turns_are.workers w x there in
      let one = All-contains (IsTurnOfOne e.t.rx.sizes x.seats.rx.number
      (length x.worker.pollers.items)) y.is.marks m y.is.marked_by
      (subst (λ ms. Contains ms m) (sym y.marks) has) in
      let p = item-at x.worker.pollers.items one.0 one.1 in
      let keeps = y.is.pollers one.0 p.0 p.1 in
      let queue : m.by ≡ p.0.queue = one.2 ∙ sym keeps.own in
      let within = keeps.within in
      let count = queues.home-count i e.t e.crew e.turns (own_in e.rx_seats) h.choices e.received
      in
      let less : m.by < Q = omega (arith, queue, within, count) in
      let at_seat : m.by % W ≡ w = actor-place e.t.rx.sizes w x e.received.work.rx_count there
      m.by x.seats.rx.number one.0 one.2 (e.received.work.rx_numbers w x there) in
      let k = turn_at (e.turns w).marks m has in
      marked-as m.by less x.seats.hint seat (e.turns (m.by % W)).marks seat_is
      (queues-coupled.marks m.by less x (ap (slice_get e.crew) at_seat ∙ there)) packet n k.0 m.step
      (ap (λ v. nth_step (steps_of m.by (e.turns v).marks) k.0) at_seat ∙ k.1) packet_is number_is

  marks-of-turns : MarksAreOfTurns i h e.codes e.hint_seats execution queues-coupled.seen
      queues-coupled.wants
  marks-of-turns seat x n value has less at = by (e.hints.each seat has)
    where
      by : IsSeat seat → WasMarked i h e.codes e.hint_seats execution queues-coupled.seen
          queues-coupled.wants seat x n
      by (inl (w, z, there, is)) =
          mark-of-turn w z there seat is x n
          ((in-turn seat (inl (w, z, there, is))).marks_are x n value at)
      by (inr other) =
          let m = (in-turn seat (inr other)).marks_are x n value at in
          absurd (let low = m.1.1 in omega (arith, low))

  -- ---- writes

  writes-marked : WritesAreMarked i h e.codes e.hint_seats (own_in e.rx_seats)
  writes-marked =
      record {
        reply = sent-coupled.reply;
        rise = λ a m n before within.
            (sent-coupled.made a (in-apps a n within)).rise m n before
            (subst (λ k. n < k) (note-count a (in-apps a n within)) within);
        made_for = λ a n within. for-reply a n (in-apps a n within) within;
        stored = λ seat n place cpu has less at.
            (seat-in-turn seat has).writes n place cpu less at;
      }
    where
      in-apps : (a n : ℕ) → n < length (list_at h.writes a) → a < length i.plan.apps
      in-apps a n within = by (cases_lt a (length i.plan.apps))
        where
          by : (a < length i.plan.apps) ⊎ (length i.plan.apps ≤ a) → a < length i.plan.apps
          by (inl less) = less
          by (inr more) =
              let count = e.sent.write_count in
              let none = ap length (get_or_past h.writes a [] (omega (arith, more, count))) in
              absurd (omega (arith, within, none))

      note-count : (a : ℕ) → a < length i.plan.apps
          → length (list_at h.writes a)
          ≡ length (oldest_first (steps_of a (e.turns (a % W)).noted))
      note-count a less =
          ap length (sent-coupled.made a less).are
          ∙ length-map (oldest_first (steps_of a (e.turns (a % W)).noted)) (λ (z : Note). z.write)

      for-reply : (a n : ℕ) → a < length i.plan.apps → n < length (list_at h.writes a)
          → IsMadeFor i h e.codes e.hint_seats (own_in e.rx_seats) a n
          (sent-coupled.reply a n)
      for-reply a n less within =
          let made = sent-coupled.made a less in
          let count = note-count a less in
          let note = item-at (oldest_first (steps_of a (e.turns (a % W)).noted)) n
          (subst (λ k. n < k) count within) in
          let for = made.each n note.0 note.1 in
          record {
            write = note.0.write;
            sent = for.reply;
            is = ap (λ ws. slice_get ws n) made.are
                ∙ (slice_get-map (λ (z : Note). z.write)
                (oldest_first (steps_of a (e.turns (a % W)).noted)) n
                ∙ ap (option_map (λ (z : Note). z.write)) note.1);
            for = for.for;
            size = for.size;
            read = made.read n note.0 note.1;
            entry = for.entry;
          }

  -- ---- all marks

  keeps-marks : KeepsMarks i h e.codes e.hint_seats (own_in e.rx_seats) execution
      queues-coupled.seen
      queues-coupled.wants
  keeps-marks =
      record {
        wire = wire-in-turn;
        filters = λ seat n place f has less low small at.
            (seat-in-turn seat has).filters n place f less low small at;
        marks = marks-of-turns;
        writes = writes-marked;
        entries = λ place value less w.
            (seat-in-turn w.seat w.among).entries place value w.writes.step less w.writes.does
            w.writes.writes;
      }

  -- ---- the run

  a-run : IsRun i h
  a-run =
      let q = queues-coupled in
      let a = sent-coupled in
      let counts = totals.received
      (empty_hands_retired e.t.rx.sizes e.rx_seats e.rx_lists e.rx_ended rx-drained.empty) in
      record {
        input = record {
          hashes = e.received.hashes;
          arrived = e.arrivals.arrived;
          total = e.copied.total;
          cut = e.copied.cut;
          start = e.copied.start;
        };
        tries = e.tries;
        commands = e.commands.commands;
        rx = e.t.rx.sizes;
        rx_seats = e.rx_seats;
        rx_lists = e.rx_lists;
        rx_ended = e.rx_ended;
        queues = execution;
        queues_seen = q.seen;
        received = record {
          board = e.copied.rx_board;
          tries_are = e.commands.received;
          finds = e.commands.finds;
          queues = q.keeps;
          right =
              subst (λ g. AllDeliverTo e.t.rx.sizes (app_for g) (own_in e.rx_seats))
              e.received.given rx-drained.right;
          retired = counts.0;
        };
        tx = e.t.tx.sizes;
        tx_seats = e.tx_seats;
        tx_lists = e.tx_lists;
        tx_ended = e.tx_ended;
        applications =
            reply_execution e.crew e.turns h.tx_choices (λ b. map (λ s. s.id) (list_at h.sent b));
        maps_seen = a.seen;
        sent = record {
          board = e.copied.tx_board;
          tries_are = e.commands.sent;
          applications = a.keeps;
          right = tx-drained.right;
          retired = totals.sent;
        };
        replied = counts.1;
        codes = e.codes;
        shared = e.shared;
        hint_seats = e.hint_seats;
        hints_ended = e.hints.ended;
        meant = stores-meant;
        used = record {
          arrivals = e.arrivals.routed;
          wants = q.wants;
          queues = a.queues;
          stands = a.stands;
          writes = a.writes;
        };
        marks = keeps-marks;
      }

pub ended_runs_are_runs : RecordLaws → EndedRunsAreRuns
ended_runs_are_runs laws i h e = a-run laws i h e

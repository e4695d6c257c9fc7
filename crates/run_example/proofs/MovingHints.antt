-- The hint words of the run with loads: their order, the looks and the stores.
use Rattle.std.proofs.Common.{◌≡◌, ◌≢◌, ◌⊎◌, inl, inr, ℕ, zero, suc, ◌+◌, ◌*◌, ◌^◌, ◌<◌, ◌≤◌, Bool}
use Rattle.std.proofs.Common.{true, false, List, [], ◌∷◌, Option, None, Some, length, refl, sym, ap}
use Rattle.std.proofs.Common.{subst, ◌∙◌, arith}
use Rattle.std.specs.List.{Contains}
use Rattle.std.specs.Prelude.{slice_get}
use Rattle.atomic_table.specs.Seated.{TableId}
use Rattle.linearization.specs.Orders.{StepBy}
use Rattle.linearization.specs.Seats.{HasPart, IsByOne, SeatView, seat_view}
use Rattle.steer_base.specs.Arrivals.{Route, route}
use Rattle.steer_base.specs.Choices.{class_of}
use Rattle.steer_base.specs.declared.filter.Filter.{Filter}
use Rattle.hint_words.specs.Closings.{HaveEnded}
use Rattle.hint_words.specs.Loads.{IsStoredBy}
use Rattle.hint_words.specs.declared.step.HintStep.{HintStep}
use Rattle.hint_words.specs.declared.step.HintStep.TheVariants.{Load, Store}
use Rattle.history.specs.Lists.{arrival_of, list_at}
use Rattle.history.specs.Regular.{route_of}
use Rattle.history.specs.declared.arrival.Arrival.{Arrival}
use Rattle.history.specs.declared.sent.Sent.{Sent}
use Rattle.hop_rule.specs.Moments.{nth_step}
use Rattle.hop_rule.proofs.Lists.{none-some, some-is}
use Rattle.hop_delivery.specs.Orders.ReceiveSettings.{socket_word}
use Rattle.hop_delivery.specs.Orders.Runs.{turns_of}
use Rattle.hop_delivery.specs.Orders.Turns.{Turn}
use Rattle.run_words.specs.Values.{filter_word, place_word}
use Rattle.steer_model.specs.Good.Choices.{WasWritten}
use Rattle.steer_model.specs.Good.Inputs.{setup_in}
use Rattle.steer_model.specs.State.Setup.{packet_hash}
use Rattle.run_example.specs.Moves.{of_first, of_two}
use Rattle.run_example.specs.MovingRun.{flow_entry, flow_filter, its_mark, its_queue, its_write}
use Rattle.run_example.specs.MovingRun.{moving_hint_order, moving_history, moving_seats}
use Rattle.run_example.specs.MovingRun.{to_other_queue, wire_steps, worker_steps}
use Rattle.run_coupling.specs.Coupling.Hints.{LookedUp, StoresAreMeant, WantsAreLoaded}
use Rattle.run_coupling.specs.Coupling.Hints.{WasFiltered, WasLoaded, WasRead, entry_of}
use Rattle.run_coupling.specs.Coupling.Inputs.{receive_queues}
use Rattle.run_coupling.specs.Coupling.Marks.{EntriesAreWritten, FiltersAreAnnounced, FoundSet}
use Rattle.run_coupling.specs.Coupling.Marks.{IsMadeFor, IsMarkedWrite, KeepsMarks, LoadsFilter}
use Rattle.run_coupling.specs.Coupling.Marks.{MarksAreOfTurns, WasMarked, WireIsInTurn}
use Rattle.run_coupling.specs.Coupling.Marks.{WritesAreMarked}
use Rattle.run_coupling.proofs.Runs.CodeLemmas.{shared}
use Rattle.run_example.proofs.HintLemmas.{EachStore, all_by_test, lawful_by_test, number_of}
use Rattle.run_example.proofs.HintLemmas.{store_of_each, write_of_each}
use Rattle.run_example.proofs.ListLemmas.{all_of_each}
use Rattle.run_example.proofs.MovingBoards.{i, rx_own}
use Rattle.run_example.proofs.MovingTurns as turns
use Rattle.run_example.proofs.MovingTurns.{rx_seen, rx_execution}

abbrev pub sent_first : Sent
sent_first = record { id = 0; rxq = 0; cpu = 1 }

abbrev pub sent_second : Sent
sent_second = record { id = 1; rxq = 0; cpu = 1 }

abbrev pub sent_third : Sent
sent_third = record { id = 2; rxq = 1; cpu = 1 }

-- the reply of each write
abbrev reply : ℕ → ℕ → ℕ
reply a n = n

module _ (table : TableId) where
  abbrev pub seats : List (SeatView HintStep)
  seats = moving_seats table

  abbrev pub the_wire : SeatView HintStep
  the_wire = seat_view table 0 wire_steps

  abbrev pub the_worker : SeatView HintStep
  the_worker = seat_view table 1 worker_steps

  abbrev is_seat : ℕ → Bool
  is_seat zero = true
  is_seat (suc zero) = true
  is_seat (suc (suc n)) = false

  by-seat : (e : StepBy HintStep) → is_seat e.by ≡ true → IsByOne seats e
  by-seat e passes = by-number e.by passes
    where
      by-number : (n : ℕ) → is_seat n ≡ true → Contains (0 ∷ 1 ∷ []) n
      by-number zero passes = (0, omega arith, refl)
      by-number (suc zero) passes = (1, omega arith, refl)
      by-number (suc (suc n)) passes = absurd (cc)

  pub ended : HaveEnded seats
  ended = record {
    order = moving_hint_order;
    lawful = lawful_by_test moving_hint_order refl;
    parts = record {
      each = all_of_each (HasPart moving_hint_order) seats (refl, (refl, tt));
      whole = all_by_test (IsByOne seats) (λ e. is_seat e.by) by-seat moving_hint_order refl;
    };
  }

  -- ---- looks

  -- a load of the wire, and one of the worker
  pub by-wire : (word value : ℕ) → Contains wire_steps (Load word value)
      → WasLoaded seats word value
  by-wire word value has =
      record { seat = the_wire; among = (0, omega arith, refl); loads = has }

  pub by-worker : (word value : ℕ) → Contains worker_steps (Load word value)
      → WasLoaded seats word value
  by-worker word value has =
      record { seat = the_worker; among = (1, omega arith, refl); loads = has }

  -- 0 says no place and no filter
  pub none : (count place : ℕ) → place < count → 0 ≡ shared.place place → ⊥
  none count place less same = let e : 0 ≡ place + 1 = same in absurd (omega arith)

  pub no-filter : (f : Filter) → f.queue < 2 → f.cpu < 2 → f.mark < 2 ^ 32
      → 0 ≡ shared.filter_value f → ⊥
  no-filter f queue cpu mark same =
      let e : 0 ≡ 1 + f.queue + 16 * f.cpu + 512 * f.mark = same in absurd (omega arith)

  -- the steps by which the queues looked up their wants, and those by which they marked packets
  abbrev look : (queue turn : ℕ) → Option ℕ
  look q = of_first (of_two (Some 1) (Some 9) None) (λ k. None) q

  abbrev mark : (queue turn : ℕ) → ℕ
  mark q = of_first (of_two 2 10 0) (λ k. 18) q

  pub looked : (q k : ℕ) (u : Turn) → nth_step (turns_of rx_execution q) k ≡ Some u
      → LookedUp shared 2 the_worker
      (entry_of (rx_seen q k (socket_word (receive_queues i))) u.chosen.choice.class
      (packet_hash (setup_in i) u.chosen.id)) (look q k) u.chosen.choice.want
  looked =
      turns.rx-each (λ q k u. LookedUp shared 2 the_worker
      (entry_of (rx_seen q k (socket_word (receive_queues i))) u.chosen.choice.class
      (packet_hash (setup_in i) u.chosen.id)) (look q k) u.chosen.choice.want)
      (1, 0, refl, refl, none 2) (9, 2, refl, refl, (omega arith, refl)) (refl, refl)

  pub in-order : (q j k m n : ℕ) → j < k → look q j ≡ Some m → look q k ≡ Some n → m < n
  in-order (suc q) j k m n less a b = none-some m a
  in-order zero (suc (suc j)) k m n less a b = none-some m a
  in-order zero j (suc (suc k)) m n less a b = none-some n b
  in-order zero zero (suc zero) m n less a b =
      let x : 1 ≡ m = some-is 1 m a in let y : 9 ≡ n = some-is 9 n b in omega arith
  in-order zero (suc zero) (suc zero) m n less a b = absurd (omega arith)
  in-order zero j zero m n less a b = absurd (omega arith)

  -- a look came before the mark of this packet, or of a later one of its queue
  pub before : (q j k m : ℕ) (u : Turn) → j ≤ k → nth_step (turns_of rx_execution q) k ≡ Some u
      → look q j ≡ Some m → m < mark q k
  before q j k m u le at is =
      turns.rx-each (λ q k u. (j m : ℕ) → j ≤ k → look q j ≡ Some m → m < mark q k)
      first second
      (λ j m le is. none-some m is) q k u at j m le is
    where
      first : (j m : ℕ) → j ≤ 0 → look 0 j ≡ Some m → m < 2
      first zero m le is = let e : 1 ≡ m = some-is 1 m is in omega arith
      first (suc j) m le is = absurd (omega arith)

      second : (j m : ℕ) → j ≤ 1 → look 0 j ≡ Some m → m < 10
      second zero m le is = let e : 1 ≡ m = some-is 1 m is in omega arith
      second (suc zero) m le is = let e : 9 ≡ m = some-is 9 m is in omega arith
      second (suc (suc j)) m le is = none-some m is

  abbrev pub wants : WantsAreLoaded i moving_history shared seats rx_execution rx_seen
  wants q less = record {
    seat = the_worker;
    among = (1, omega arith, refl);
    step = look q;
    each = looked q;
    order = in-order q;
    mark = mark q;
    before = before q;
  }

  -- ---- stores

  -- the wire announced this packet
  record Announces (seat : SeatView HintStep) (n word value : ℕ) : Type 0 where
    packet : ℕ
    small : packet < 3
    word_is : word ≡ 69793 + 2 * packet
    value_is : value ≡ (arrival_of moving_history.arrivals packet).queue + 1
    seat_is : seat ≡ the_wire
    after : 3 * packet < n

  -- the worker marked this packet as steered
  record MarksOne (seat : SeatView HintStep) (n word value : ℕ) : Type 0 where
    packet : ℕ
    small : packet < 3
    word_is : word ≡ 69793 + 2 * packet + 1
    mark : WasMarked i moving_history shared seats rx_execution rx_seen wants seat packet n

  -- the application wrote, for a packet that it had found marked
  record WritesOne (seat : SeatView HintStep) (n word value : ℕ) : Type 0 where
    word_is : word ≡ 0
    value_is : value ≡ 2
    write : IsMarkedWrite i moving_history shared seats reply seat n its_write

  -- the worker set a filter to this queue, for a packet that it had found announced
  abbrev SetsFilter : SeatView HintStep → (n place queue : ℕ) → Type 0
  SetsFilter seat n place queue =
      (w : WasFiltered i rx_execution place queue)
      × FoundSet seat (shared.packet w.turn.chosen.id) n

  record FiltersOne (seat : SeatView HintStep) (n word value : ℕ) : Type 0 where
    word_is : word ≡ 65696
    value_is : value ≡ 530
    filter : SetsFilter seat n 0 1

  -- a store is one of these
  abbrev IsStore : SeatView HintStep → (n word value : ℕ) → Type 0
  IsStore seat n word value =
      Announces seat n word value
      ⊎ (MarksOne seat n word value ⊎ (WritesOne seat n word value ⊎ FiltersOne seat n word value))

  -- with its step the worker found a packet's word set
  found : (word step n value : ℕ) → step < n
      → nth_step worker_steps step ≡ Some (Load word value) → value ≢ 0 → FoundSet the_worker word n
  found word step n value earlier loads set =
      record { step = step; earlier = earlier; value = value; loads = loads; set = set }

  announces : (packet n word value : ℕ) → packet < 3 → word ≡ 69793 + 2 * packet
      → value ≡ (arrival_of moving_history.arrivals packet).queue + 1 → 3 * packet < n
      → IsStore the_wire n word value
  announces packet n word value small word_is value_is after =
      inl (record {
        packet = packet;
        small = small;
        word_is = word_is;
        value_is = value_is;
        seat_is = refl;
        after = after;
      })

  writes : (index n step : ℕ) (s : Sent)
      → slice_get (list_at moving_history.writes 0) index ≡ Some its_write
      → slice_get (list_at moving_history.sent 0) index ≡ Some s → step < n
      → nth_step worker_steps step ≡ Some (Load (its_mark s.id) 1)
      → IsStore the_worker n flow_entry (place_word 1)
  writes index n step s is for earlier loads =
      inr (inr (inl (record {
        word_is = refl;
        value_is = refl;
        write = record {
          app = 0;
          index = index;
          is = is;
          sent = s;
          for = for;
          marked = found (its_mark s.id) step n 1 earlier loads (λ e. absurd (omega arith));
        };
      })))

  marks : (queue index packet n word : ℕ) (u : Turn) → queue < 2 → packet < 3
      → word ≡ 69793 + 2 * packet + 1 → nth_step (turns_of rx_execution queue) index ≡ Some u
      → u.chosen.id ≡ packet → mark queue index ≡ n → IsStore the_worker n word 1
  marks queue index packet n word u within small word_is is packet_is step_is =
      inr (inl (record {
        packet = packet;
        small = small;
        word_is = word_is;
        mark = record {
          queue = queue;
          within = within;
          index = index;
          turn = u;
          is = is;
          packet_is = packet_is;
          seat_is = refl;
          step_is = step_is;
        };
      }))

  -- the filter that was stored for packet 1
  filters : IsStore the_worker 11 flow_filter (filter_word to_other_queue)
  filters =
      inr (inr (inr (record {
        word_is = refl;
        value_is = refl;
        filter = (
          record {
            producer = 0;
            index = 1;
            turn = turns.turn_again;
            position = 1;
            is = refl;
            moved = refl;
            home = refl;
            accepted = refl;
            there = refl;
          },
          found (its_queue 1) 8 11 1 (omega arith) refl (λ e. absurd (omega arith)),
        );
      })))

  wire-stores : EachStore (λ n word value. IsStore the_wire n word value) wire_steps
  wire-stores = (
    announces 2 7 (its_queue 2) (place_word 1) (omega arith) refl refl (omega arith),
    (
      announces 1 5 (its_queue 1) (place_word 0) (omega arith) refl refl (omega arith),
      (announces 0 2 (its_queue 0) (place_word 0) (omega arith) refl refl (omega arith), tt),
    ),
  )

  worker-stores : EachStore (λ n word value. IsStore the_worker n word value) worker_steps
  worker-stores = (
    writes 2 21 19 sent_third refl refl (omega arith) refl,
    (
      marks 1 0 2 18 (its_mark 2) turns.turn_other (omega arith) (omega arith) refl refl refl refl,
      (
        writes 1 14 12 sent_second refl refl (omega arith) refl,
        (
          filters,
          (
            marks 0 1 1 10 (its_mark 1) turns.turn_again (omega arith) (omega arith) refl refl refl
                refl,
            (
              writes 0 5 3 sent_first refl refl (omega arith) refl,
              (
                marks 0 0 0 2 (its_mark 0) turns.turn_first (omega arith) (omega arith) refl refl
                    refl refl,
                tt,
              ),
            ),
          ),
        ),
      ),
    ),
  )

  -- each store of a seat is one of these
  each-store : (seat : SeatView HintStep) → Contains seats seat
      → EachStore (λ n word value. IsStore seat n word value) seat.steps
  each-store seat (zero, less, is) =
      subst (λ (s : SeatView HintStep). EachStore (λ n word value. IsStore s n word value) s.steps)
      is wire-stores
  each-store seat (suc zero, less, is) =
      subst (λ (s : SeatView HintStep). EachStore (λ n word value. IsStore s n word value) s.steps)
      is worker-stores
  each-store seat (suc (suc k), less, is) = absurd (omega (arith, less))

  known : (seat : SeatView HintStep) (n word value : ℕ) → Contains seats seat
      → nth_step seat.steps n ≡ Some (Store word value) → IsStore seat n word value
  known seat n word value among at =
      store_of_each (λ n word value. IsStore seat n word value) seat.steps n word value
      (each-store seat among) at

  stored : (word value : ℕ) (s : IsStoredBy seats word value)
      → (n : ℕ) × IsStore s.seat n word value
  stored word value s =
      let r = number_of s.seat.steps (Store word value) s.stores in
      (r.0, known s.seat r.0 word value s.among r.1)

  -- what is stored at an entry of the socket flow table was written for a packet
  at-entry : (seat : SeatView HintStep) (n place value : ℕ) → place < 65536
      → IsStore seat n place value → WritesOne seat n place value
  at-entry seat n place value less (inl a) = let e = a.word_is in absurd (omega arith)
  at-entry seat n place value less (inr (inl m)) = let e = m.word_is in absurd (omega arith)
  at-entry seat n place value less (inr (inr (inl w))) = w
  at-entry seat n place value less (inr (inr (inr f))) =
      let e = f.word_is in absurd (omega arith)

  -- what is stored at the word of a filter is the filter of packet 1
  at-filter : (seat : SeatView HintStep) (n place value : ℕ) → place < 2
      → IsStore seat n (65696 + place) value
      → (place ≡ 0) × (value ≡ 530) × SetsFilter seat n 0 1
  at-filter seat n place value less (inl a) = let e = a.word_is in absurd (omega arith)
  at-filter seat n place value less (inr (inl m)) = let e = m.word_is in absurd (omega arith)
  at-filter seat n place value less (inr (inr (inl w))) =
      let e = w.word_is in absurd (omega arith)
  at-filter seat n place value less (inr (inr (inr f))) =
      let e = f.word_is in (omega arith, f.value_is, f.filter)

  -- what is stored at the word of a packet's queue is the queue of its arrival
  at-packet : (seat : SeatView HintStep) (n x value : ℕ) → x < 3
      → IsStore seat n (69793 + 2 * x) value
      → (value ≡ (arrival_of moving_history.arrivals x).queue + 1) × (seat ≡ the_wire)
      × (3 * x < n)
  at-packet seat n x value less (inl a) =
      let e = a.word_is in
      let same : a.packet ≡ x = omega arith in
      subst (λ y. (value ≡ (arrival_of moving_history.arrivals y).queue + 1) × (seat ≡ the_wire)
      × (3 * y < n)) same (a.value_is, a.seat_is, a.after)
  at-packet seat n x value less (inr (inl m)) = let e = m.word_is in absurd (omega arith)
  at-packet seat n x value less (inr (inr (inl w))) =
      let e = w.word_is in absurd (omega arith)
  at-packet seat n x value less (inr (inr (inr f))) =
      let e = f.word_is in absurd (omega arith)

  -- what is stored at a mark
  at-mark : (seat : SeatView HintStep) (n x value : ℕ) → x < 3
      → IsStore seat n (69793 + 2 * x + 1) value
      → WasMarked i moving_history shared seats rx_execution rx_seen wants seat x n
  at-mark seat n x value less (inl a) = let e = a.word_is in absurd (omega arith)
  at-mark seat n x value less (inr (inl m)) =
      let e = m.word_is in
      let same : m.packet ≡ x = omega arith in
      subst (λ y. WasMarked i moving_history shared seats rx_execution rx_seen wants seat y n)
      same m.mark
  at-mark seat n x value less (inr (inr (inl w))) = let e = w.word_is in absurd (omega arith)
  at-mark seat n x value less (inr (inr (inr f))) = let e = f.word_is in absurd (omega arith)

  -- there is no other word
  at-none : (seat : SeatView HintStep) (n word value : ℕ) → 65536 ≤ word → word < 65696
      → IsStore seat n word value → ⊥
  at-none seat n word value low high (inl a) = let e = a.word_is in absurd (omega arith)
  at-none seat n word value low high (inr (inl m)) = let e = m.word_is in absurd (omega arith)
  at-none seat n word value low high (inr (inr (inl w))) =
      let e = w.word_is in absurd (omega arith)
  at-none seat n word value low high (inr (inr (inr f))) =
      let e = f.word_is in absurd (omega arith)

  -- the write
  the-write : (cpu : ℕ) → cpu + 1 ≡ 2 → cpu ≡ 1
  the-write cpu e = omega arith

  filter-queue : (f : Filter) → f.queue < 2 → f.cpu < 2
      → 1 + f.queue + 16 * f.cpu + 512 * f.mark ≡ 530 → f.queue ≡ 1
  filter-queue f queue cpu e = omega arith

  pub meant : StoresAreMeant i moving_history shared seats rx_execution
  meant =
      record {
        sockets = λ place cpu less s.
            (let k = stored place (place_word cpu) s in
            let w = at-entry s.seat k.0 place (place_word cpu) less k.1 in
            subst (λ (z : ℕ × ℕ). WasWritten moving_history (record { entry = z.0; cpu = z.1 }))
            (λ j. (sym w.word_is j, sym (the-write cpu w.value_is) j)) (0, 0, refl));
        entries = λ place q less s.
            (let k = stored (shared.entry place) (place_word q) s in
            let small : place < 128 = less in
            absurd (at-none s.seat k.0 (65536 + place) (place_word q) (omega arith) (omega arith)
            k.1));
        stands = λ a cpu less s.
            (let k = stored (shared.stand a) (place_word cpu) s in
            let small : a < 1 = less in
            absurd (at-none s.seat k.0 (65664 + a) (place_word cpu) (omega arith) (omega arith)
            k.1));
        filters = λ place f less queue cpu s.
            (let k = stored (shared.filter place) (filter_word f) s in
            let w = at-filter s.seat k.0 place (filter_word f) less k.1 in
            subst (λ (z : ℕ × ℕ). WasFiltered i rx_execution z.0 z.1)
            (λ j. (sym w.0 j, sym (filter-queue f queue cpu w.1) j)) w.2.0);
        packets = λ x q less s.
            (let k = stored (shared.packet x) (place_word q) s in
            let w = at-packet s.seat k.0 x (place_word q) less k.1 in
            let is : q + 1 ≡ (arrival_of moving_history.arrivals x).queue + 1 = w.0 in
            omega arith);
      }

  -- ---- marks

  -- the wire looked for the filters of its packets with these steps
  abbrev filter_look : ℕ → ℕ
  filter_look x = 3 * x

  wire-in-turn : WireIsInTurn i moving_history shared seats
  wire-in-turn =
      record {
        wire = the_wire;
        among = (0, omega arith, refl);
        look = filter_look;
        looks = λ a hash queue arrived has came. by-arrival a hash queue arrived has came;
        tells = λ seat x y n value hash among le less has at.
            (let w = at-packet seat n y value less (known seat n (shared.packet y) value among at)
            in
            let after = w.2 in (w.1, omega (arith, after, le)));
      }
    where
      filter-of : (r s : Route) → r ≡ s → r.filter ≡ s.filter
      filter-of r s e = ap (λ (r : Route). r.filter) e

      by-arrival : (a : Arrival) (hash queue : ℕ) → Contains moving_history.arrivals a
          → packet_hash (setup_in i) a.id ≡ Some hash
          → route_of a ≡ route (Some hash) (Some queue) 0
          → LoadsFilter i moving_history shared seats the_wire (filter_look a.id) hash queue
      by-arrival a hash queue (zero, less, is) has came =
          none-some queue
          (ap (λ (a : Arrival). a.filter) is ∙ filter-of (route_of a)
          (route (Some hash) (Some queue) 0) came)
      by-arrival a hash queue (suc zero, less, is) has came =
          none-some queue
          (ap (λ (a : Arrival). a.filter) is ∙ filter-of (route_of a)
          (route (Some hash) (Some queue) 0) came)
      by-arrival a hash queue (suc (suc zero), less, is) has came =
          let two : 2 ≡ a.id = ap (λ (a : Arrival). a.id) is in
          let one : 1 ≡ queue = some-is 1 queue
          (ap (λ (a : Arrival). a.filter) is ∙ filter-of (route_of a)
          (route (Some hash) (Some queue) 0) came) in
          let of-two : 2 ≡ hash = some-is 2 hash
          (ap (packet_hash (setup_in i)) two ∙ has) in
          subst (λ (z : ℕ × (ℕ × ℕ)).
          LoadsFilter i moving_history shared seats the_wire (filter_look z.0) z.1.0 z.1.1)
          (λ j. (two j, (of-two j, one j)))
          (record {
            place = 0;
            filter = to_other_queue;
            here = refl;
            queue_is = refl;
            queue_within = omega arith;
            cpu_within = omega arith;
            loads = refl;
          })
      by-arrival a hash queue (suc (suc (suc k)), less, is) has came =
          absurd (omega (arith, less))

  filters-announced : FiltersAreAnnounced i moving_history shared seats rx_execution
  filters-announced seat n place f among less queue cpu at =
      let w = at-filter seat n place (filter_word f) less
      (known seat n (shared.filter place) (filter_word f) among at) in
      subst (λ (z : ℕ × ℕ). SetsFilter seat n z.0 z.1)
      (λ j. (sym w.0 j, sym (filter-queue f queue cpu w.1) j)) w.2

  marks-of-turns : MarksAreOfTurns i moving_history shared seats rx_execution rx_seen wants
  marks-of-turns seat x n value among less at =
      at-mark seat n x value less (known seat n (shared.steered x) value among at)

  -- the application read the size of the table in a visit
  pub size-was-read : WasRead i moving_history shared seats rx_own 2
  size-was-read = record { seat = 0; step = 3; does = refl; in_visit = refl }

  writes-marked : WritesAreMarked i moving_history shared seats rx_own
  writes-marked =
      record {
        reply = reply;
        rise = λ a m n less within. less;
        made_for = made-for;
        stored = λ seat n place cpu among less at.
            (let w = at-entry seat n place (place_word cpu) less
            (known seat n (shared.socket place) (place_word cpu) among at) in
            subst (λ (z : ℕ × ℕ). IsMarkedWrite i moving_history shared seats reply seat n
            (record { entry = z.0; cpu = z.1 }))
            (λ j. (sym w.word_is j, sym (the-write cpu w.value_is) j)) w.write);
      }
    where
      made : (n : ℕ) (s : Sent)
          → slice_get (list_at moving_history.writes 0) n ≡ Some its_write
          → slice_get (list_at moving_history.sent 0) n ≡ Some s
          → packet_hash (setup_in i) s.id ≡ Some 2
          → IsMadeFor i moving_history shared seats rx_own 0 n n
      made n s is for has =
          record {
            write = its_write;
            sent = s;
            is = is;
            for = for;
            size = 2;
            read = size-was-read;
            entry = ap (class_of 2) has;
          }

      made-for : (a n : ℕ) → n < length (list_at moving_history.writes a)
          → IsMadeFor i moving_history shared seats rx_own a n n
      made-for zero zero less = made 0 sent_first refl refl refl
      made-for zero (suc zero) less = made 1 sent_second refl refl refl
      made-for zero (suc (suc zero)) less = made 2 sent_third refl refl refl
      made-for zero (suc (suc (suc n))) less = absurd (omega arith)
      made-for (suc a) n less = absurd (omega arith)

  entries-written : EntriesAreWritten i moving_history shared seats
  entries-written place value less by =
      let r = write_of_each (λ n word value. IsStore by.seat n word value) by.seat.steps
      by.writes.step place value (each-store by.seat by.among) by.writes.does by.writes.writes in
      let w = at-entry by.seat r.0 place value less
      (known by.seat r.0 place value by.among r.1) in
      inl (1, w.value_is, omega arith)

  pub marks-kept : KeepsMarks i moving_history shared seats rx_own rx_execution rx_seen wants
  marks-kept =
      record {
        wire = wire-in-turn;
        filters = filters-announced;
        marks = marks-of-turns;
        writes = writes-marked;
        entries = entries-written;
      }

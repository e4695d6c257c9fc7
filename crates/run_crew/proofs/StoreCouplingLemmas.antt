-- The stores of a worker's seat give the coupling invariant of all stores.
use Rattle.std.specs.List.{position, position_or_len}
use Rattle.std.proofs.lemmas.List.Elements.{All-contains}
use Rattle.steer_base.specs.Choices.{has_moved}
use Rattle.steer_base.specs.Filters.{home_queue}
use Rattle.history.specs.declared.sock_write.SockWrite.{SockWrite}
use Rattle.hint_words.specs.Loads.{IsStoredBy}
use Rattle.hint_words.specs.Steps.{value_written}
use Rattle.steer_model.specs.Good.Choices.{WasWritten}
use Rattle.steer_model.specs.Steps.Pollers.{filter_for}
use Rattle.run_words.specs.Values.{filter_word, place_word}
use Rattle.run_words.specs.declared.hint_word.HintWord.TheVariants as word
use Rattle.run_words.specs.declared.hint_word.TheConstants.{FILTER_WORDS, REDIRECTION_WORDS}
use Rattle.run_words.specs.declared.hint_word.TheConstants.{STAND_WORDS}
use Rattle.run_coupling.specs.Coupling.Hints.{WasFiltered}
use Rattle.run_coupling.specs.Coupling.Marks.{FoundSet, IsMarkedWrite}
use Rattle.run_workers.specs.Records.Storing.{IsFilterOf, IsFor, IsWriteOf, StoresAreFor}
use Rattle.run_workers.specs.Records.Words.{FoundBefore}
use Rattle.run_crew.specs.StoreCoupling.{IsEntryValue, IsNoted, StoresAreCoupled}
use Rattle.run_crew.specs.StoreCoupling.{StoresAreMeantByEach, WorkersStoresAreMeant}
use Rattle.run_crew.proofs.Names.{◌≡◌, inl, inr, ℕ, ◌+◌, ◌<◌, ◌≤◌, Bool, true, List, [], ◌∷◌}
use Rattle.run_crew.proofs.Names.{Option, None, Some, All, if◌then◌else◌, length, sym, refl, ap}
use Rattle.run_crew.proofs.Names.{◌∙◌, subst, arith, ◌==◌, false, nat_lt, Contains, option_map}
use Rattle.run_crew.proofs.Names.{cases_Bool, ltb-true, length-map, StepBy, steps_of, SeatView}
use Rattle.run_crew.proofs.Names.{if_same, Choice, Filter, MAX_SOCKET_SIZE, QueuePlan, History}
use Rattle.run_crew.proofs.Names.{HintStep, Load, Store, nth_step, none-some, some-is, nth-inside}
use Rattle.run_crew.proofs.Names.{nth-last, nth-old, Execution, Turn, Input, setup_in, packet_hash}
use Rattle.run_crew.proofs.Names.{hint_number, AreShared, HintCodes, StoresAreMeant, Mark, Note}
use Rattle.run_crew.proofs.Names.{StoresInTurn}
use Rattle.run_crew.proofs.NoteLemmas.{class_below}
use Rattle.run_crew.proofs.TurnListLemmas.{contains_split, has_number}

abbrev Hint : Type 0
Hint = SeatView HintStep

-- ---- members of lists

-- a turn of a seat is one of the turns of its producer
pub turn_at : {A : Type 0} (es : List (StepBy A)) (e : StepBy A) → Contains es e
    → (k : ℕ) × (nth_step (steps_of e.by es) k ≡ Some e.step)
turn_at [] e (k, less, is) = absurd (omega (arith, less))
turn_at {A} (d ∷ es) e has = elim (contains_split d es e has) [
  | inl same ↦ (
    length (steps_of e.by es),
    subst (λ (z : StepBy A). nth_step (steps_of z.by (d ∷ es)) (length (steps_of z.by es))
        ≡ Some z.step) same
        (ap (λ us. nth_step us (length (steps_of d.by es)))
        (if_same d.by d.by (d.step ∷ steps_of d.by es) (steps_of d.by es) refl)
        ∙ nth-last d.step (steps_of d.by es)),
  )
  | inr old ↦ more (d.by == e.by) refl (turn_at es e old)
]
  where
    more : (b : Bool) → (d.by == e.by) ≡ b
        → (k : ℕ) × (nth_step (steps_of e.by es) k ≡ Some e.step)
        → (k : ℕ) × (nth_step (steps_of e.by (d ∷ es)) k ≡ Some e.step)
    more true mine (k, at) = (
      k,
      ap (λ b. nth_step (if b then d.step ∷ steps_of e.by es else steps_of e.by es) k) mine
          ∙ (nth-old (d.step ∷ []) (steps_of e.by es) k
          (nth-inside (steps_of e.by es) k e.step at) ∙ at),
    )
    more false other (k, at) = (
      k,
      ap (λ b. nth_step (if b then d.step ∷ steps_of e.by es else steps_of e.by es) k) other ∙ at,
    )

-- ---- steps

-- a store by one seat is one of its own
pub own_store : (seat : Hint) (number value : ℕ) → IsStoredBy (seat ∷ []) number value
    → Contains seat.steps (Store number value)
own_store seat number value s = elim (contains_split seat [] s.seat s.among) [
  | inl same ↦ subst (λ (z : Hint). Contains z.steps (Store number value)) (sym same) s.stores
  | inr none ↦ absurd (let low = none.1 in omega (arith, low))
]

-- a store writes its value at its word
written_there : (number value : ℕ) → value_written number (Store number value) ≡ Some value
written_there number value = if_same number number (Some value) None refl

found_as : (seat : Hint) (coded number n : ℕ) → coded ≡ number
    → FoundBefore seat.steps number n → FoundSet seat coded n
found_as seat coded number n same found =
    record {
      step = found.step;
      earlier = found.earlier;
      value = found.value;
      loads = found.loads ∙ ap (λ m. Some (Load m found.value)) (sym same);
      set = found.set;
    }

-- ---- filters

by_home : (queue : Option ℕ) (cpu mark : ℕ) (f : Filter)
    → option_map (λ q. record { queue = q; cpu = cpu; mark = mark }) queue ≡ Some f
    → queue ≡ Some f.queue
by_home None cpu mark f is = none-some f is
by_home (Some q) cpu mark f is =
    ap (λ (o : Option Filter). option_map (λ (d : Filter). d.queue) o) is

-- a filter is asked for by a choice that moved to the home of its queue
asked_moves : (homes : List ℕ) (filters : ℕ) (choice : Choice) (position : ℕ) (f : Filter)
    → filter_for homes filters choice position ≡ Some f
    → (has_moved choice.why ≡ true) × (home_queue homes choice.lane ≡ Some f.queue)
asked_moves homes filters choice position f is = elim (cases_Bool (nat_lt 0 filters)) [
  | inl some ↦ elim (cases_Bool (has_moved choice.why)) [
    | inl moved ↦ (
      moved,
      by_home (home_queue homes choice.lane) choice.lane position f (rw (some, moved) at is),
    )
    | inr stays ↦ absurd (let e : None ≡ Some f = rw (some, stays) at is in cc)
  ]
  | inr none ↦ absurd (let e : None ≡ Some f = rw none at is in cc)
]

position_below : {A : Type 0} (p : A → Bool) (xs : List A) (k : ℕ) → position p xs ≡ Some k
    → k < length xs
position_below p xs k is = elim (cases_Bool (nat_lt (position_or_len p xs) (length xs))) [
  | inl less ↦
      let e : Some (position_or_len p xs) ≡ Some k = rw less at is in
      let n = some-is (position_or_len p xs) k e in
      let l = ltb-true (position_or_len p xs) (length xs) less in
      omega (arith, l, n)
  | inr more ↦ absurd (let e : None ≡ Some k = rw more at is in cc)
]

one_queue : (f g : Filter) → f.queue < 16 → g.queue < 16 → filter_word f ≡ filter_word g
    → f.queue ≡ g.queue
one_queue f g below less same = omega (arith, below, less, same)

-- ---- a worker's seat

module _ (i : Input) (h : History) (c : HintCodes) (seats : List Hint) (t : Execution) (q : ℕ)
    (reply : (app write : ℕ) → ℕ) (marks : List (StepBy Mark)) (noted : List (StepBy Note))
    (seat : Hint) (codes : AreShared c)
    (mine : All (λ (e : StepBy Turn). t.seat e.by ≡ q) (t.turns q))
    (are_noted : (e : StepBy Note) → Contains noted e → IsNoted i h reply e)
    (stores : StoresAreFor (setup_in i) i.plan.filters (t.turns q) marks noted seat.steps) where
  -- a turn, a mark or a write for which this value was stored at this word with the step n
  abbrev WasFor : ℕ → ℕ → ℕ → Type 0
  WasFor n number value =
      IsFor (setup_in i) i.plan.filters (t.turns q) marks noted seat.steps n number value

  at_step : (n number value : ℕ) → nth_step seat.steps n ≡ Some (Store number value)
      → WasFor n number value
  at_step n number value at =
      stores n number value (Store number value) at (written_there number value)

  was_for : (number value : ℕ) → IsStoredBy (seat ∷ []) number value
      → (n : ℕ) × WasFor n number value
  was_for number value s =
      let at = has_number seat.steps (Store number value) (own_store seat number value s) in
      (at.0, at_step at.0 number value at.1)

  write_within : (e : StepBy Note) → Contains noted e → e.step.write.entry < MAX_SOCKET_SIZE
  write_within e has = (are_noted e has).made.entry_within

  was_written : (e : StepBy Note) → Contains noted e → WasWritten h e.step.write
  was_written e has = let n = are_noted e has in (e.by, n.index, n.is)

  place_below : (e : StepBy Turn) (number value : ℕ)
      (f : IsFilterOf (setup_in i) i.plan.filters e.step number value) → f.place < i.plan.filters
  place_below e number value f =
      class_below i.plan.filters (packet_hash (setup_in i) e.step.chosen.id) f.place f.there

  -- a word before the filters is that of a write
  by_write : (n number value : ℕ) → number < FILTER_WORDS → WasFor n number value
      → (e : StepBy Note) × Contains noted e × IsWriteOf e.step.write number value
      × FoundBefore seat.steps (hint_number (word.Steered e.step.packet)) n
  by_write n number value less (inl (e, has, f, found)) =
      absurd (let m = f.word_is in omega (arith, m, less))
  by_write n number value less (inr (inl (e, has, m))) =
      absurd (let at = m.1 in omega (arith, at, less))
  by_write n number value less (inr (inr write)) = write

  -- and so it is an entry of the socket flow table
  no_other : {A : Type 0} (n number value : ℕ) → number < FILTER_WORDS
      → MAX_SOCKET_SIZE ≤ number → WasFor n number value → A
  no_other n number value less more was =
      let w = by_write n number value less was in
      let m = w.2.0 in
      let l = write_within w.0 w.1 in
      absurd (omega (arith, m, l, more))

  same_write : (w : SockWrite) (place cpu : ℕ) → IsWriteOf w place (place_word cpu)
      → w ≡ record { entry = place; cpu = cpu }
  same_write w place cpu (entry, value) =
      let same : w.cpu ≡ cpu = omega (arith, value) in
      (λ j. record { entry = sym entry j; cpu = same j })

  socket_meant : (place cpu : ℕ) → place < MAX_SOCKET_SIZE
      → IsStoredBy (seat ∷ []) (c.socket place) (c.place cpu)
      → WasWritten h (record { entry = place; cpu = cpu })
  socket_meant place cpu less s =
      let was = was_for place (place_word cpu)
      (subst (λ (z : ℕ × ℕ). IsStoredBy (seat ∷ []) z.0 z.1)
      (λ j. (codes.socket place j, codes.place cpu j)) s) in
      let w = by_write was.0 place (place_word cpu) (omega (arith, less)) was.1 in
      subst (WasWritten h) (same_write w.0.step.write place cpu w.2) (was_written w.0 w.1)

  -- a filter was stored for a turn whose packet had been found announced
  filter_meant : (n place : ℕ) (f : Filter) → place < i.plan.filters
      → f.queue < length i.plan.queues
      → WasFor n (FILTER_WORDS + place) (filter_word f)
      → (w : WasFiltered i t place f.queue) × FoundSet seat (c.packet w.turn.chosen.id) n
  filter_meant n place f less below (inr (inr (e, has, is, found))) =
      absurd (let l = write_within e has in let m = is.0 in omega (arith, l, m))
  filter_meant n place f less below (inr (inl (e, has, m))) =
      absurd (let few = i.plan.within.filters_within in
      let at = m.1 in omega (arith, at, less, few))
  filter_meant n place f less below (inl (e, has, x, found)) =
      let turn = turn_at (t.turns q) e has in
      let moved = asked_moves (setup_in i).homes i.plan.filters e.step.chosen.choice x.position
      x.filter x.asked in (
        record {
          producer = e.by;
          index = turn.0;
          turn = e.step;
          position = x.position;
          is = ap (λ s. nth_step (steps_of e.by (t.turns s)) turn.0)
              (All-contains (λ (d : StepBy Turn). t.seat d.by ≡ q) (t.turns q) e mine has) ∙ turn.1;
          moved = moved.0;
          home = moved.1 ∙ ap Some (queue_same moved.1);
          accepted = x.accepted;
          there = x.there ∙ ap Some (place_same x.word_is);
        },
        found_as seat (c.packet e.step.chosen.id) (hint_number (word.Queue e.step.chosen.id)) n
            (codes.packet e.step.chosen.id) found,
      )
    where
      place_same : FILTER_WORDS + place ≡ FILTER_WORDS + x.place → x.place ≡ place
      place_same e = omega (arith, e)

      queues : length (setup_in i).homes ≤ 16
      queues =
          let n = length-map i.plan.queues (λ (queue : QueuePlan). queue.home) in
          let m = i.plan.within.queues_length.at_most in
          omega (arith, n, m)

      queue_same : home_queue (setup_in i).homes e.step.chosen.choice.lane ≡ Some x.filter.queue
          → x.filter.queue ≡ f.queue
      queue_same home =
          let l = position_below (λ at. at == e.step.chosen.choice.lane) (setup_in i).homes
          x.filter.queue home in
          let m = i.plan.within.queues_length.at_most in
          one_queue x.filter f (omega (arith, l, queues)) (omega (arith, below, m))
          (sym x.value_is)

  packet_meant : {A : Type 0} (n id value : ℕ) → WasFor n (hint_number (word.Queue id)) value → A
  packet_meant n id value (inl (e, has, f, found)) =
      let l = place_below e (hint_number (word.Queue id)) value f in
      let m = i.plan.within.filters_within in
      let is = f.word_is in
      absurd (omega (arith, l, m, is))
  packet_meant n id value (inr (inl (e, has, m))) =
      absurd (let at = m.1 in omega (arith, at))
  packet_meant n id value (inr (inr (e, has, is, found))) =
      let l = write_within e has in let m = is.0 in absurd (omega (arith, l, m))

  meant : StoresAreMeant i h c (seat ∷ []) t
  meant =
      record {
        sockets = socket_meant;
        entries = λ place queue less s.
            (let was = was_for (REDIRECTION_WORDS + place) (c.place queue)
            (subst (λ n. IsStoredBy (seat ∷ []) n (c.place queue)) (codes.entry place) s) in
            no_other was.0 (REDIRECTION_WORDS + place) (c.place queue) (omega (arith, less))
            (omega arith) was.1);
        stands = λ a cpu less s.
            (let m = i.plan.within.apps_length.at_most in
            let was = was_for (STAND_WORDS + a) (c.place cpu)
            (subst (λ n. IsStoredBy (seat ∷ []) n (c.place cpu)) (codes.stand a) s) in
            no_other was.0 (STAND_WORDS + a) (c.place cpu) (omega (arith, less, m))
            (omega arith) was.1);
        filters = λ place f less below cpu s.
            (let was = was_for (FILTER_WORDS + place) (filter_word f)
            (subst (λ (z : ℕ × ℕ). IsStoredBy (seat ∷ []) z.0 z.1)
            (λ j. (codes.filter place j, codes.filter_value f j)) s) in
            (filter_meant was.0 place f less below was.1).0);
        packets = λ id queue less s.
            (let was = was_for (hint_number (word.Queue id)) (c.place queue)
            (subst (λ n. IsStoredBy (seat ∷ []) n (c.place queue)) (codes.packet id) s) in
            packet_meant was.0 id (c.place queue) was.1);
      }

  -- ---- in their turn

  mark_meant : (n x value : ℕ) → WasFor n (hint_number (word.Steered x)) value
      → (e : StepBy Mark) × Contains marks e × (e.step.packet ≡ x) × (e.step.number ≡ n)
  mark_meant n x value (inl (e, has, f, found)) =
      let l = place_below e (hint_number (word.Steered x)) value f in
      let m = i.plan.within.filters_within in
      let is = f.word_is in
      absurd (omega (arith, l, m, is))
  mark_meant n x value (inr (inl (e, has, (number, at, is)))) =
      (e, has, omega (arith, at), sym number)
  mark_meant n x value (inr (inr (e, has, is, found))) =
      let l = write_within e has in let m = is.0 in absurd (omega (arith, l, m))

  write_marked : (n place cpu : ℕ) → place < MAX_SOCKET_SIZE → WasFor n place (place_word cpu)
      → IsMarkedWrite i h c seats reply seat n (record { entry = place; cpu = cpu })
  write_marked n place cpu less was =
      let w = by_write n place (place_word cpu) (omega (arith, less)) was in
      let noted_as = are_noted w.0 w.1 in
      record {
        app = w.0.by;
        index = noted_as.index;
        is = noted_as.is ∙ ap Some (same_write w.0.step.write place cpu w.2);
        sent = noted_as.made.reply;
        for = noted_as.made.for;
        marked =
            found_as seat (c.steered noted_as.made.reply.id)
            (hint_number (word.Steered w.0.step.packet)) n
            (codes.steered noted_as.made.reply.id
            ∙ ap (λ id. hint_number (word.Steered id)) noted_as.made.packet) w.3;
      }

  entry_written : (n place value : ℕ) → place < MAX_SOCKET_SIZE → WasFor n place value
      → IsEntryValue i h c value
  entry_written n place value less was =
      let w = by_write n place value (omega (arith, less)) was in
      inl (
        w.0.step.write.cpu,
        w.2.1 ∙ sym (codes.place w.0.step.write.cpu),
        (are_noted w.0 w.1).made.cpu_within,
      )

  in_turn : StoresInTurn i h c seats t reply marks seat
  in_turn =
      record {
        filters = λ n place f less below cpu at.
            filter_meant n place f less below (at_step n (FILTER_WORDS + place) (filter_word f)
            (subst (λ (z : ℕ × ℕ). nth_step seat.steps n ≡ Some (Store z.0 z.1))
            (λ j. (codes.filter place j, codes.filter_value f j)) at));
        marks_are = λ x n value at.
            mark_meant n x value (at_step n (hint_number (word.Steered x)) value
            (subst (λ m. nth_step seat.steps n ≡ Some (Store m value)) (codes.steered x) at));
        writes = λ n place cpu less at.
            write_marked n place cpu less (at_step n place (place_word cpu)
            (subst (λ (z : ℕ × ℕ). nth_step seat.steps n ≡ Some (Store z.0 z.1))
            (λ j. (codes.socket place j, codes.place cpu j)) at));
        entries = λ place value d less has writes.
            (let at = has_number seat.steps d has in
            entry_written at.0 place value less (stores at.0 place value d at.1
            (subst (λ m. value_written m d ≡ Some value) (codes.socket place) writes)));
      }

  coupled : StoresAreCoupled i h c seats t reply marks seat
  coupled =
      record {
        meant = meant;
        in_turn = in_turn;
        quiet = λ y n value at.
            packet_meant n y value (at_step n (hint_number (word.Queue y)) value
            (subst (λ m. nth_step seat.steps n ≡ Some (Store m value)) (codes.packet y) at));
      }

pub workers_stores_are_meant : WorkersStoresAreMeant
workers_stores_are_meant i h c seats t q reply marks noted seat codes mine are_noted stores =
    coupled i h c seats t q reply marks noted seat codes mine are_noted stores

-- ---- all seats

by_one : (seats : List Hint) (word value : ℕ) (s : IsStoredBy seats word value)
    → IsStoredBy (s.seat ∷ []) word value
by_one seats word value s =
    record { seat = s.seat; among = (0, omega arith, refl); stores = s.stores }

pub stores_are_meant_by_each : StoresAreMeantByEach
stores_are_meant_by_each i h c t seats each =
    record {
      sockets = λ place cpu less s.
          (each s.seat s.among).sockets place cpu less (by_one seats _ _ s);
      entries = λ place queue less s.
          (each s.seat s.among).entries place queue less (by_one seats _ _ s);
      stands = λ a cpu less s. (each s.seat s.among).stands a cpu less (by_one seats _ _ s);
      filters = λ place f less below cpu s.
          (each s.seat s.among).filters place f less below cpu (by_one seats _ _ s);
      packets = λ id queue less s.
          (each s.seat s.among).packets id queue less (by_one seats _ _ s);
    }

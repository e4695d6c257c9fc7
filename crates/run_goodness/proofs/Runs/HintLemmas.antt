-- What the hint words tell of a run: where arrivals, wants, replies and writes come from.
use Rattle.std.specs.List.{Contains}
use Rattle.std.specs.Option.{option_map}
use Rattle.std.proofs.Math.ListN.{get_or-eq_default}
use Rattle.std.proofs.Math.Nat.{mod-lt}
use Rattle.std.proofs.lemmas.Bool.{cases_lt, le-leb}
use Rattle.std.proofs.lemmas.List.Elements.{All-cons, All-contains, All-head, All-nil, All-tail}
use Rattle.std.proofs.lemmas.Option.{slice_get-map}
use Rattle.std.specs.Prelude.{is_some}
use Rattle.linearization.specs.Seats.{SeatView}
use Rattle.steer_base.specs.Arrivals.{filter_place, table_place}
use Rattle.steer_base.specs.Choices.{class_of}
use Rattle.steer_base.specs.Entries.{place_in}
use Rattle.steer_base.specs.declared.put.Put.{Put}
use Rattle.steer_base.specs.declared.put.Put.TheVariants.{At}
use Rattle.dev_flow_table.specs.Folds.{IsPutAt}
use Rattle.steer_base.specs.declared.limits.TheConstants.{MAX_SOCKET_SIZE}
use Rattle.hint_words.specs.Loads.{ComesFrom, IsStoredBy, LoadsAreStored}
use Rattle.hint_words.proofs.Sources.{loads_are_stored}
use Rattle.hint_words.specs.declared.step.HintStep.{HintStep}
use Rattle.hint_words.specs.declared.step.HintStep.TheVariants.{Load}
use Rattle.history.specs.Lists.{arrival_of}
use Rattle.history.specs.declared.arrival.Arrival.{Arrival}
use Rattle.history.specs.declared.sock_write.SockWrite.{SockWrite}
use Rattle.hop_rule.proofs.Moments.{nth-first}
use Rattle.board_api.specs.OwnSteps.{visit_before}
use Rattle.hop_delivery.specs.Orders.Commands.{received_sets}
use Rattle.hop_delivery.specs.Orders.ReceiveSettings.{socket_word}
use Rattle.steer_model.specs.Good.Arrivals.{FilterFrom, QueuesAreSeen, SeenBy}
use Rattle.steer_model.specs.Good.Choices.{WantsAreWritten, WasWritten}
use Rattle.steer_model.specs.Good.Writes.{AreWrites, IsSize, StoodAt, WritesAreRight}
use Rattle.run_words.specs.Values.{socket_size_in}
use Rattle.run_coupling.specs.Coupling.Hints.{AreRecorded, CameBy, IsRouted, LookedUp, Says, Stands}
use Rattle.run_coupling.specs.Coupling.Hints.{WasFiltered, WasLoaded, WasRead, WordSaid, entry_of}
use Rattle.run_coupling.proofs.Runs.PutTurnLemmas.{put-of}
use Rattle.run_coupling.proofs.Runs.QueueLemmas as queues
use Rattle.run_goodness.proofs.Names.{◌≡◌, ◌≢◌, inl, inr, ℕ, zero, suc, ◌/◌, ◌^◌, ◌<◌, List, []}
use Rattle.run_goodness.proofs.Names.{◌∷◌, ◌++◌, Option, Some, None, length, map, All, sym, refl}
use Rattle.run_goodness.proofs.Names.{ap, ◌∙◌, subst, arith, get_or, ◌%◌, ◌≤◌, Bool, if◌then◌else◌}
use Rattle.run_goodness.proofs.Names.{lt-ltb, All-from_get_or, none-some, some-is, slice_get}
use Rattle.run_goodness.proofs.Names.{slice_get-get_or, Chosen, is_in, lane_at, list_at, History}
use Rattle.run_goodness.proofs.Names.{LaneList, Sent, chosen_at, nobody, nth_step, BoardStep}
use Rattle.run_goodness.proofs.Names.{own_in, accepted_left, turns_of, word_of, Turn, Input}
use Rattle.run_goodness.proofs.Names.{settings_at, setup_in, Settings, packet_hash}
use Rattle.run_goodness.proofs.Names.{initial_settings, commands_before, AllAnswered}
use Rattle.run_goodness.proofs.Names.{receive_queues, IsRun, Try, at_receive, settings_by}
use Rattle.run_goodness.proofs.Names.{tries_up_to, turn-at}
use Rattle.run_goodness.proofs.Runs.RunLemmas as runs
use Rattle.run_coupling.proofs.Runs.TurnListLemmas.{turn-chosen}
use Rattle.run_coupling.proofs.Tries.OpeningLemmas.{settings_of_opening}
use Rattle.run_goodness.proofs.Tries.SizeLemmas.{size_by}
use Rattle.run_coupling.proofs.Tries.TryLemmas.{first-tries}
use Rattle.hop_delivery.proofs.Closings.PutPlaceLemmas.{turns_put_once}

-- a value that was loaded and is not 0 was stored
pub loaded-stored : (seats : List (SeatView HintStep)) (word value : ℕ) → LoadsAreStored seats
    → WasLoaded seats word value → value ≢ 0 → IsStoredBy seats word value
loaded-stored seats word value all w set =
    All-contains (ComesFrom seats) w.seat.steps (Load word value)
    (All-contains (λ (s : SeatView HintStep). All (ComesFrom seats) s.steps) seats w.seat all
    w.among)
    w.loads set

-- a step at a place is one of the steps
pub nth-among : (steps : List HintStep) (n : ℕ) (d : HintStep) → nth_step steps n ≡ Some d
    → Contains steps d
nth-among [] n d at = none-some d at
nth-among (e ∷ es) n d at = elim (nth-first e es n d at) [
  | inl old ↦
      (let c = nth-among es n d old in let less = c.1 in (suc c.0, omega (arith, less), c.2))
  | inr new ↦ (0, omega arith, new.0)
]

each-all : {A : Type 0} (P Q : A → Type 0) (xs : List A) → ((x : A) → P x → Q x) → All P xs
    → All Q xs
each-all P Q [] gives all = All-nil Q
each-all P Q (x ∷ xs) gives all =
    All-cons Q x xs (gives x (All-head P x xs all)) (each-all P Q xs gives (All-tail P x xs all))

both-all : {A : Type 0} (P Q R : A → Type 0) (xs : List A) → ((x : A) → P x → Q x → R x)
    → All P xs → All Q xs → All R xs
both-all P Q R [] gives all more = All-nil R
both-all P Q R (x ∷ xs) gives all more =
    All-cons R x xs (gives x (All-head P x xs all) (All-head Q x xs more))
    (both-all P Q R xs gives (All-tail P x xs all) (All-tail Q x xs more))

below-modulus : (n : ℕ) → n % 128 < 128
below-modulus n = omega arith

-- a class is below the count
pub class-below : (count : ℕ) (hash : Option ℕ) (k : ℕ) → class_of count hash ≡ Some k → k < count
class-below count None k is = none-some k is
class-below zero (Some hash) k is = none-some k is
class-below (suc n) (Some hash) k is =
    let same : hash % suc n ≡ k = some-is (hash % suc n) k (sym (some-count hash n) ∙ is) in
    let low = mod-lt hash {m = suc n} (omega arith) in omega arith
  where
    some-count : (hash n : ℕ) → class_of (suc n) (Some hash) ≡ Some (hash % suc n)
    some-count hash n = rw (lt-ltb 0 (suc n) (omega arith)) refl

answered-back : (i : Input) (h : History) (more ts : List Try) → AllAnswered i h (more ++ ts)
    → AllAnswered i h ts
answered-back i h [] ts all = all
answered-back i h (t ∷ more) ts all = answered-back i h more ts all.1

module _ (i : Input) (h : History) (run : IsRun i h) where
  abbrev rx_own : ℕ → List BoardStep
  rx_own = own_in run.rx_seats

  pub stored : LoadsAreStored run.hint_seats
  stored =
      loads_are_stored run.hint_seats run.hints_ended.order run.hints_ended.lawful
      run.hints_ended.parts

  pub stored-place : (word place : ℕ) → WasLoaded run.hint_seats word (run.codes.place place)
      → IsStoredBy run.hint_seats word (run.codes.place place)
  stored-place word place w =
      loaded-stored run.hint_seats word (run.codes.place place) stored w
      (run.codes.place_is_set place)

  -- a place that a word said was stored there
  pub said-stored : (word count place : ℕ)
      → WordSaid i h run.codes run.hint_seats word count (Some place)
      → IsStoredBy run.hint_seats word (run.codes.place place)
  said-stored word count place (value, was, says) =
      stored-place word place (subst (WasLoaded run.hint_seats word) says.1 was)

  -- ---- 2: queues

  -- a filter that was set comes from the choice of its turn
  pub filter-of : (hash place queue : ℕ) (w : WasFiltered i run.queues place queue)
      → filter_place i.plan.filters (Some hash) ≡ Some place
      → (f : FilterFrom i h hash queue) × (f.choice.id ≡ w.turn.chosen.id)
  filter-of hash place queue w here =
      let u : Turn = w.turn in
      let put = put-of rx_own run.queues run.received.queues.turns w.producer w.index u w.is in
      let at : IsPutAt run.rx.start
      (place_in u.chosen.id (accepted_left run.rx_lists u.chosen.choice.lane))
      (Some (At w.position)) =
      subst (λ (a : Put).
      IsPutAt run.rx.start (place_in u.chosen.id (accepted_left run.rx_lists u.chosen.choice.lane))
      (Some a)) w.accepted
      ((runs.rx-facts i h run).answers
      (turns_put_once rx_own run.queues (runs.rx-turns i h run)) (run.queues.seat w.producer) put.0
      u.chosen.choice.lane u.chosen.id u.hash u.answer put.1) in (
        record {
          queue = w.producer;
          choice = u.chosen;
          chosen = (
            w.index,
            ap (λ cs. slice_get cs w.index) (run.received.queues.choices w.producer)
                ∙ turn-chosen rx_own run.queues run.received.queues.turns w.producer w.index u w.is,
          );
          moved = w.moved;
          home = w.home;
          accepted =
              ap (λ (ls : List LaneList). is_in u.chosen.id
              (lane_at ls u.chosen.choice.lane).accepted)
              run.received.board.lanes
              ∙ ap is_some at.1;
          place = place;
          there = w.there;
          here = here;
        },
        refl,
      )

  seen-by : (hash : Option ℕ) (a : Arrival) → IsRouted i h run.codes run.hint_seats hash a
      → SeenBy i h hash a
  seen-by None a is = is
  seen-by (Some hash) a (inl (q, is, none, inl said)) = inl (
    q,
    is,
    run.meant.entries (table_place hash) q (below-modulus hash)
        (said-stored (run.codes.entry (table_place hash)) (length i.plan.queues) q said),
  )
  seen-by (Some hash) a (inl (q, is, none, inr (unset, plan))) = inl (q, is, inl plan)
  seen-by (Some hash) a (inr (place, f, queue_few, cpu_few, is, here, loaded)) = inr (
    f.queue,
    is,
    (filter-of hash place f.queue
        (run.meant.filters place f (class-below i.plan.filters (Some hash) place here) queue_few
        cpu_few
        (loaded-stored run.hint_seats (run.codes.filter place) (run.codes.filter_value f)
        stored loaded (run.codes.filter_is_set f)))
        here).0,
  )

  pub queues-are-seen : QueuesAreSeen i h
  queues-are-seen =
      each-all
      (λ (a : Arrival). IsRouted i h run.codes run.hint_seats (packet_hash (setup_in i) a.id) a)
      (λ (a : Arrival). SeenBy i h (packet_hash (setup_in i) a.id) a) h.arrivals
      (λ a is. seen-by (packet_hash (setup_in i) a.id) a is) run.used.arrivals

  -- ---- 4: wants

  abbrev after : ℕ → Settings
  after n = settings_by (initial_settings i.plan) (tries_up_to at_receive n run.tries)

  pub settings-after : (n : ℕ)
      → settings_at i h (length (tries_up_to at_receive n run.tries)) ≡ after n
  settings-after n =
      settings_of_opening i h run.rx rx_own run.rx_lists run.tries run.received.board
      run.received.tries_are (queues.all_name_queues i run.tries (runs.within i h run)) n

  -- a want that is set was loaded at an entry
  pub want-loaded : (size : ℕ) (class hash : Option ℕ) (seat : SeatView HintStep)
      (step wanted : Option ℕ) (want : ℕ) → Contains run.hint_seats seat
      → LookedUp run.codes i.plan.cpus seat (entry_of size class hash) step wanted
      → wanted ≡ Some want → size ≤ MAX_SOCKET_SIZE
      → (place : ℕ) × (class_of size hash ≡ Some place)
      × WasLoaded run.hint_seats (run.codes.socket place) (run.codes.place want)
  want-loaded size None hash seat step wanted want among looked is few =
      none-some want (sym looked.1 ∙ is)
  want-loaded size (Some class) hash seat step wanted want among looked is few =
      by-entry (class_of (socket_size_in size) hash) refl looked
    where
      same : socket_size_in size ≡ size
      same = ap (λ (b : Bool). if b then size else 0) (le-leb size MAX_SOCKET_SIZE few)

      by-entry : (o : Option ℕ) → class_of (socket_size_in size) hash ≡ o
          → LookedUp run.codes i.plan.cpus seat o step wanted
          → (place : ℕ) × (class_of size hash ≡ Some place)
          × WasLoaded run.hint_seats (run.codes.socket place) (run.codes.place want)
      by-entry None at by = none-some want (sym by.1 ∙ is)
      by-entry (Some entry) at (n, value, there, loads, says) = (
        entry,
        ap (λ m. class_of m hash) (sym same) ∙ at,
        record {
          seat = seat;
          among = among;
          loads = subst (λ v. Contains seat.steps (Load (run.codes.socket entry) v))
              (subst (Says run.codes i.plan.cpus value) is says).1
              (nth-among seat.steps n (Load (run.codes.socket entry) value) loads);
        },
      )

  pub want-written : (q k want : ℕ) (u : Turn) → q < length i.plan.queues
      → nth_step (turns_of run.queues q) k ≡ Some u → u.chosen.choice.want ≡ Some want
      → (place : ℕ) × (class_of (settings_at i h (commands_before run.tries run.queues q k)).sock
      (packet_hash (setup_in i) u.chosen.id) ≡ Some place)
      × WasWritten h (record { entry = place; cpu = want })
  want-written q k want u within at is =
      let looks = run.used.wants q within in
      let few = (queues.fit-seen i h run.rx rx_own run.rx_lists (runs.rx-facts i h run)
      run.tries
      run.queues run.queues_seen run.input.hashes run.received.board run.received.tries_are
      (runs.within i h run) run.commands.answered run.received.finds run.received.right
      run.input.arrived run.received.queues q k u at).sock in
      let w = want-loaded (run.queues_seen q k (socket_word (receive_queues i)))
      u.chosen.choice.class (packet_hash (setup_in i) u.chosen.id) looks.seat (looks.step k)
      u.chosen.choice.want want looks.among (looks.each k u at) is few in
      let sock = queues.seen-sock i h run.rx rx_own run.rx_lists (runs.rx-facts i h run) run.tries
      run.queues run.queues_seen run.input.hashes run.received.board run.received.tries_are
      (runs.within i h run) run.commands.answered run.received.finds run.received.right
      run.input.arrived run.received.queues q k u at in
      let number : word_of (nth_step (turns_of run.queues q) k) / 2 ^ 32 ≡ u.word / 2 ^ 32 =
      ap (λ o. word_of o / 2 ^ 32) at in
      let same : (settings_at i h (commands_before run.tries run.queues q k)).sock
      ≡ run.queues_seen q k (socket_word (receive_queues i)) =
      ap (λ (s : Settings). s.sock)
      (settings-after (word_of (nth_step (turns_of run.queues q) k) / 2 ^ 32) ∙ ap after number)
      ∙ sym sock in (
        w.0,
        ap (λ n. class_of n (packet_hash (setup_in i) u.chosen.id)) same ∙ w.1,
        run.meant.sockets w.0 want
            (let place = class-below (run.queues_seen q k (socket_word (receive_queues i)))
            (packet_hash (setup_in i) u.chosen.id) w.0 w.1 in omega (arith, place, few))
            (stored-place (run.codes.socket w.0) want w.2),
      )

  -- a queue with a choice is one of the plan
  pub is-queue : (q k : ℕ) → k < length (list_at h.choices q) → q < length i.plan.queues
  is-queue q k less = elim (cases_lt q (length i.plan.queues)) [
    | inl within ↦ within
    | inr past ↦ (let n = run.received.queues.choice_lists in
        let beyond : length h.choices ≤ q = omega (arith, n, past) in
        let none = ap length (get_or-eq_default h.choices [] beyond) in
        absurd (omega (arith, none, less)))
  ]

  pub wants-are-written : WantsAreWritten i h (commands_before run.tries run.queues)
  wants-are-written q k want less is =
      let same = run.received.queues.choices q in
      let few : k < length (run.queues.choices q) = subst (λ cs. k < length cs) same less in
      let u = turn-at rx_own run.queues run.received.queues.turns q k
      (get_or (run.queues.choices q) k nobody)
      (slice_get-get_or (run.queues.choices q) k nobody few) in
      let chosen : u.0.chosen ≡ chosen_at (list_at h.choices q) k =
      u.2 ∙ ap (λ cs. chosen_at cs k) (sym same) in
      subst (λ (c : Chosen).
      (place : ℕ)
      × (class_of (settings_at i h (commands_before run.tries run.queues q k)).sock
      (packet_hash (setup_in i) c.id) ≡ Some place)
      × WasWritten h (record { entry = place; cpu = want })) chosen
      (want-written q k want u.0 (is-queue q k less) u.1
      (ap (λ (c : Chosen). c.choice.want) chosen ∙ is))

  -- ---- 9: writes

  stood-at : (a cpu : ℕ) → a < length i.plan.apps → Stands i h run.codes run.hint_seats a cpu
      → StoodAt i h a cpu
  stood-at a cpu less (inl said) =
      run.meant.stands a cpu less (said-stored (run.codes.stand a) i.plan.cpus cpu said)
  stood-at a cpu less (inr (unset, plan)) = inl plan

  -- a size that was read in a visit is that of its number
  pub size-is : (size : ℕ) (w : WasRead i h run.codes run.hint_seats rx_own size)
      → size ≡ (after (visit_before (rx_own w.seat) w.step)).sock
  size-is size w =
      let n : ℕ = visit_before (rx_own w.seat) w.step in
      let words = queues.words-upto i h run.rx rx_own run.rx_lists (runs.rx-facts i h run) run.tries
      run.queues run.queues_seen run.input.hashes run.received.board run.received.tries_are
      (runs.within i h run) run.commands.answered run.received.finds run.received.right
      run.input.arrived run.received.queues n in
      (runs.rx-facts i h run).reads.in_visit w.seat w.step (socket_word (receive_queues i)) size
      w.does w.in_visit
      ∙ words.sock

  pub size-few : (size : ℕ) → WasRead i h run.codes run.hint_seats rx_own size
      → size ≤ MAX_SOCKET_SIZE
  size-few size w =
      let n : ℕ = visit_before (rx_own w.seat) w.step in
      let fit = queues.fit-upto i h run.rx rx_own run.rx_lists (runs.rx-facts i h run) run.tries
      run.queues run.queues_seen run.input.hashes run.received.board run.received.tries_are
      (runs.within i h run) run.commands.answered run.received.finds run.received.right
      run.input.arrived run.received.queues n in
      subst (λ m. m ≤ MAX_SOCKET_SIZE) (sym (size-is size w)) fit.sock

  pub size-read : (size : ℕ) → WasRead i h run.codes run.hint_seats rx_own size → IsSize i h size
  size-read size w =
      let n : ℕ = visit_before (rx_own w.seat) w.step in
      let f = first-tries run.rx (received_sets (receive_queues i)) at_receive n run.tries
      run.received.tries_are.are in
      subst (IsSize i h) (sym (size-is size w))
      (size_by i h run.tries run.received.tries_are.commands f.0
      (tries_up_to at_receive n run.tries) f.1
      (answered-back i h f.0 (tries_up_to at_receive n run.tries)
      (subst (AllAnswered i h) f.1 run.commands.answered)))

  are-writes : (a : ℕ) (xs : List ℕ) (ws : List SockWrite) → a < length i.plan.apps
      → AreRecorded i h run.codes run.hint_seats rx_own a xs ws → AreWrites i h a xs ws
  are-writes a [] ws less is = is
  are-writes a (x ∷ xs) ws less (inl (none, rest)) = inl (none, are-writes a xs ws less rest)
  are-writes a (x ∷ xs) ws less (inr (inl (hash, w, more, size, has, parts, was, at, stands, rest)))
      =
      inr (inl (
        hash,
        w,
        more,
        has,
        parts,
        record {
          size = size;
          is_size = size-read size was;
          at = at;
          stood = stood-at a w.cpu less stands;
        },
        are-writes a xs more less rest,
      ))
  are-writes a (x ∷ xs) ws less (inr (inr (hash, size, has, was, zero_is, rest))) =
      inr (inr (
        hash,
        has,
        subst (IsSize i h) (zero_is (size-few size was)) (size-read size was),
        are-writes a xs ws less rest,
      ))

  no-replies : (a : ℕ) → length i.plan.apps ≤ a → list_at h.sent a ≡ []
  no-replies a past =
      let n = run.sent.applications.sent_lists in
      let beyond : length h.sent ≤ a = omega arith in get_or-eq_default h.sent [] beyond

  no-writes : (a : ℕ) → length i.plan.apps ≤ a → list_at h.writes a ≡ []
  no-writes a past =
      let n = run.sent.applications.write_lists in
      let beyond : length h.writes ≤ a = omega arith in get_or-eq_default h.writes [] beyond

  pub writes-are-right : WritesAreRight i h
  writes-are-right a =
      subst (λ xs. AreWrites i h a xs (list_at h.writes a)) (runs.all-replied i h run a)
      (elim (cases_lt a (length i.plan.apps)) [
        | inl less ↦
            are-writes a (map (λ (s : Sent). s.id) (list_at h.sent a)) (list_at h.writes a) less
            (run.used.writes a)
        | inr past ↦
            subst (λ (ss : List Sent).
            AreWrites i h a (map (λ (s : Sent). s.id) ss) (list_at h.writes a))
            (sym (no-replies a past)) (no-writes a past)
      ])

  -- ---- 11: replies

  came-by : (x rxq : ℕ) → x < length i.packets → CameBy i h run.codes run.hint_seats x rxq
      → rxq ≡ (arrival_of h.arrivals x).queue
  came-by x rxq less (inl said) =
      sym (run.meant.packets x rxq less
      (said-stored (run.codes.packet x) (length i.plan.queues) rxq said))
  came-by x rxq less (inr (unset, is)) = sym is

  each-known : (a : ℕ) → All (λ (s : Sent). s.id < length i.packets) (list_at h.sent a)
  each-known a =
      All-from_get_or (λ (s : Sent). s.id < length i.packets) (list_at h.sent a) no_sent
      (λ k less.
      (let s : Sent = get_or (list_at h.sent a) k no_sent in
      runs.reply-known i h run a k s.id
      (ap (λ xs. slice_get xs k) (run.sent.applications.replies a)
      ∙ (slice_get-map (λ (s : Sent). s.id) (list_at h.sent a) k
      ∙ ap (option_map (λ (s : Sent). s.id))
      (slice_get-get_or (list_at h.sent a) k no_sent less)))))
    where
      no_sent : Sent
      no_sent = record { id = 0; rxq = 0; cpu = 0 }

  pub queues-of-replies : (a : ℕ)
      → All (λ (s : Sent). s.rxq ≡ (arrival_of h.arrivals s.id).queue) (list_at h.sent a)
  queues-of-replies a =
      both-all (λ (s : Sent). s.id < length i.packets)
      (λ (s : Sent). CameBy i h run.codes run.hint_seats s.id s.rxq)
      (λ (s : Sent). s.rxq ≡ (arrival_of h.arrivals s.id).queue) (list_at h.sent a)
      (λ s less is. came-by s.id s.rxq less is) (each-known a) (run.used.queues a)

  pub stood-of-replies : (a : ℕ) → All (λ (s : Sent). StoodAt i h a s.cpu) (list_at h.sent a)
  stood-of-replies a =
      elim (cases_lt a (length i.plan.apps)) [
        | inl less ↦
            each-all (λ (s : Sent). Stands i h run.codes run.hint_seats a s.cpu)
            (λ (s : Sent). StoodAt i h a s.cpu) (list_at h.sent a)
            (λ s is. stood-at a s.cpu less is) (run.used.stands a)
        | inr past ↦
            subst (All (λ (s : Sent). StoodAt i h a s.cpu)) (sym (no-replies a past))
            (All-nil (λ (s : Sent). StoodAt i h a s.cpu))
      ]

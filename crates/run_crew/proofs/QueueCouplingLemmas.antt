-- A poller's record gives the coupling invariants of its queue.
use Rattle.std.proofs.Common.{IfSome, true≢false}
use Rattle.std.specs.Option.{is_some}
use Rattle.std.proofs.lemmas.Bool.{le-leb}
use Rattle.std.proofs.lemmas.List.{length-replicate}
use Rattle.steer_base.specs.Choices.{rps_choice_of}
use Rattle.steer_base.specs.Counters.{rounded_up}
use Rattle.dev_flow_table.specs.Tables.{IsClassOf, entries, unset}
use Rattle.board_api.specs.OwnSteps.{ReadsIn}
use Rattle.board_api.specs.StepWords.{openings_in}
use Rattle.hop_rule.proofs.Moments.{nth-between}
use Rattle.hop_delivery.specs.Closings.TurnReads.{HasSeen, Knows}
use Rattle.hop_delivery.specs.Orders.ReceiveSettings.{Queues, mask, online, receive_steering, rps}
use Rattle.hop_delivery.specs.Orders.Runs.{Steering, goal_of}
use Rattle.steer_model.specs.State.Setup.{flow_number_of}
use Rattle.run_words.specs.Values.{cpus_in, flows_in}
use Rattle.run_workers.specs.Hands.Pollers.{LoadedHead, class_read, desired_read, online_read}
use Rattle.run_workers.specs.Hands.Pollers.{plain_read}
use Rattle.run_workers.specs.declared.poller.Reading.{Reading}
use Rattle.run_workers.proofs.Hands.ChoiceLemmas.{class_is}
use Rattle.run_coupling.specs.Coupling.Hints.{LookedUp, entry_of}
use Rattle.run_coupling.specs.Coupling.Inputs.{FlowsHaveOneHash, hash_of_flow, receive_queues}
use Rattle.run_coupling.specs.Coupling.OwnTables.{IsByTable, class_by, goal_by, table_before}
use Rattle.run_coupling.specs.Coupling.Queues.{FitReceiveWords}
use Rattle.run_workers.specs.Records.Polling.{AllPolled, IsLastLook, IsPolled, table_of_turn}
use Rattle.run_crew.specs.QueueCoupling.{IsQueueCoupled, words_read, words_seen, words_of_turn}
use Rattle.run_crew.proofs.Names.{◌≡◌, ◌⊎◌, inl, inr, ℕ, ◌+◌, ◌*◌, ◌%◌, ◌^◌, ◌<◌, ◌≤◌, Bool, All}
use Rattle.run_crew.proofs.Names.{false, List, [], ◌∷◌, ◌++◌, Option, None, Some, if◌then◌else◌}
use Rattle.run_crew.proofs.Names.{length, map, take, drop, sym, refl, ap, ◌∙◌, subst, arith}
use Rattle.run_crew.proofs.Names.{slice_index, unwrap_or, Contains, fold, lt-ltb, All-head}
use Rattle.run_crew.proofs.Names.{All-tail, StepBy, SeatView, if_same, if_other, class_of}
use Rattle.run_crew.proofs.Names.{looks_at_head, migrate, has, Choice, after_turn, Table, cleared}
use Rattle.run_crew.proofs.Names.{since_resize, HintStep, nth_step, BoardSizes, BoardStep}
use Rattle.run_crew.proofs.Names.{Weighed, none-some, some-is, nth-first, nth-inside, Execution}
use Rattle.run_crew.proofs.Names.{turns_of, Turn, Input, setup_in, Setup, packet_hash, Poller}
use Rattle.run_crew.proofs.Names.{AreShared, HintCodes, oldest_first, IsPolling, PolledTurn}
use Rattle.run_crew.proofs.Names.{turns_in, Mark, IsMarkedBy, PollersAreCoupled}
use Rattle.run_crew.proofs.OwnTableLemmas.{all_at, fold_rows, table_is}
use Rattle.run_crew.proofs.RuleLemmas.{choice_looked, coded_look, goal, own_want, rule_looks}
use Rattle.run_crew.proofs.TurnListLemmas.{TurnAt, front, nth-map, turn_at}

abbrev turn_of : PolledTurn → Turn
turn_of s = s.turn

-- ---- the words that were read

module _ (queues q : ℕ) (r : Reading) (less : q < queues) where
  read_mask : words_read queues q r q ≡ r.mask
  read_mask = if_same q q r.mask _ refl

  read_flows : words_read queues q r (queues + q) ≡ r.flows
  read_flows =
      if_other (queues + q) q r.mask _ (λ e. absurd (omega (arith, e, less)))
      ∙ if_same (queues + q) (queues + q) r.flows _ refl

  read_socket : words_read queues q r (2 * queues) ≡ r.socket
  read_socket =
      if_other (2 * queues) q r.mask _ (λ e. absurd (omega (arith, e, less)))
      ∙ (if_other (2 * queues) (queues + q) r.flows _ (λ e. absurd (omega (arith, e, less)))
      ∙ if_same (2 * queues) (2 * queues) r.socket _ refl)

  read_online : words_read queues q r (2 * queues + 1) ≡ r.online
  read_online =
      if_other (2 * queues + 1) q r.mask _ (λ e. absurd (omega (arith, e, less)))
      ∙ (if_other (2 * queues + 1) (queues + q) r.flows _ (λ e. absurd (omega (arith, e, less)))
      ∙ (if_other (2 * queues + 1) (2 * queues) r.socket _ (λ e. absurd (omega (arith, e)))
      ∙ if_same (2 * queues + 1) (2 * queues + 1) r.online 0 refl))

-- a set of processors within its range is the word
fits_cpus : (word cpus : ℕ) → word < 2 ^ cpus → cpus_in word cpus ≡ mask word
fits_cpus word cpus less =
    ap (λ (b : Bool). record { 0 = if b then word else 0 }) (lt-ltb word (2 ^ cpus) less)

fits_flows : (word : ℕ) → word % 2 ^ 32 ≤ 32768 → rounded_up (word % 2 ^ 32) ≡ word % 2 ^ 32
    → rounded_up (flows_in word) ≡ word % 2 ^ 32
fits_flows word few rounded =
    ap rounded_up (ap (λ (b : Bool). if b then word % 2 ^ 32 else 0)
    (le-leb (word % 2 ^ 32) 32768 few))
    ∙ rounded

-- ---- the looks of turns

-- the step by which a turn looked up its want, if there is one
abbrev look_of : Option PolledTurn → Option ℕ
look_of None = None
look_of (Some s) = s.look

look_inside : (o : Option PolledTurn) (n : ℕ) → look_of o ≡ Some n
    → (s : PolledTurn) × (o ≡ Some s) × (s.look ≡ Some n)
look_inside None n is = none-some n is
look_inside (Some s) n is = (s, refl, is)

-- what holds of all turns holds of the k-th
of_nth : (P : PolledTurn → Type 0) (ss : List PolledTurn) (k : ℕ) (s : PolledTurn) → All P ss
    → nth_step ss k ≡ Some s → P s
of_nth P [] k s all at = none-some s at
of_nth P (z ∷ zs) k s all at = elim (nth-first z zs k s at) [
  | inl old ↦ of_nth P zs k s (All-tail P z zs all) old
  | inr new ↦ subst P new.0 (All-head P z zs all)
]

-- the looks of turns are steps in their order
looks_rise : (first start : ℕ) (given : Setup) (packets q : ℕ) (rx : List BoardStep)
    (hints : List HintStep) (ss : List PolledTurn)
    → AllPolled first start given packets q rx hints ss
    → (j k m n : ℕ) → j < k → look_of (nth_step ss j) ≡ Some m
    → look_of (nth_step ss k) ≡ Some n → m < n
looks_rise first start given packets q rx hints [] all j k m n less a b = none-some m a
looks_rise first start given packets q rx hints (s ∷ ss) all j k m n less a b =
    let x = look_inside (nth_step (s ∷ ss) j) m a in
    let y = look_inside (nth_step (s ∷ ss) k) n b in
    by_last (looks_rise first start given packets q rx hints ss all.1 j k m n less) x
    (nth-first s ss j x.0 x.1) y (nth-first s ss k y.0 y.1)
  where
    by_last : (look_of (nth_step ss j) ≡ Some m → look_of (nth_step ss k) ≡ Some n → m < n)
        → (x : (z : PolledTurn) × (nth_step (s ∷ ss) j ≡ Some z) × (z.look ≡ Some m))
        → (nth_step ss j ≡ Some x.0) ⊎ ((s ≡ x.0) × (j ≡ length ss))
        → (y : (z : PolledTurn) × (nth_step (s ∷ ss) k ≡ Some z) × (z.look ≡ Some n))
        → (nth_step ss k ≡ Some y.0) ⊎ ((s ≡ y.0) × (k ≡ length ss)) → m < n
    by_last rest x (inl old) y (inl later) = rest (ap look_of old ∙ x.2) (ap look_of later ∙ y.2)
    by_last rest x (inr last) y (inl later) =
        let inside = nth-inside ss k y.0 later in
        let at = last.1 in
        absurd (omega (arith, inside, at, less))
    by_last rest x (inr last) y (inr new) =
        let at = last.1 in let end = new.1 in absurd (omega (arith, at, end, less))
    by_last rest x (inl old) y (inr new) =
        let look : s.look ≡ Some n = ap (λ (z : PolledTurn). z.look) new.0 ∙ y.2 in
        let last : IsLastLook ss n =
        subst (λ o. IfSome o (IsLastLook ss)) look all.0.last in
        subst (λ o. IfSome o (λ l. l < n)) x.2
        (of_nth (λ (z : PolledTurn). IfSome z.look (λ l. l < n)) ss j x.0 last old)

-- the step by which a turn marked its packet
abbrev mark_of : Option PolledTurn → ℕ
mark_of None = 0
mark_of (Some s) = s.mark

abbrev mark_in : PolledTurn → Mark
mark_in s = record { packet = s.turn.chosen.id; number = s.mark }

-- the looks of a turn and of earlier ones come before its mark
looks_before : (first start : ℕ) (given : Setup) (packets q : ℕ) (rx : List BoardStep)
    (hints : List HintStep) (ss : List PolledTurn)
    → AllPolled first start given packets q rx hints ss
    → (j k m : ℕ) (z : PolledTurn) → j ≤ k → look_of (nth_step ss j) ≡ Some m
    → nth_step ss k ≡ Some z → m < z.mark
looks_before first start given packets q rx hints [] all j k m z le look at = none-some m look
looks_before first start given packets q rx hints (s ∷ ss) all j k m z le look at =
    let x = look_inside (nth_step (s ∷ ss) j) m look in
    by_last (λ old_look old. looks_before first start given packets q rx hints ss all.1 j k m z le
    old_look old)
    (λ w old_look old. looks_before first start given packets q rx hints ss all.1 j j m w
    (omega arith) old_look old)
    x (nth-first s ss j x.0 x.1) (nth-first s ss k z at)
  where
    by_last : (look_of (nth_step ss j) ≡ Some m → nth_step ss k ≡ Some z → m < z.mark)
        → ((w : PolledTurn) → look_of (nth_step ss j) ≡ Some m → nth_step ss j ≡ Some w
        → m < w.mark)
        → (x : (w : PolledTurn) × (nth_step (s ∷ ss) j ≡ Some w) × (w.look ≡ Some m))
        → (nth_step ss j ≡ Some x.0) ⊎ ((s ≡ x.0) × (j ≡ length ss))
        → (nth_step ss k ≡ Some z) ⊎ ((s ≡ z) × (k ≡ length ss)) → m < z.mark
    by_last rest own x (inl old) (inl later) = rest (ap look_of old ∙ x.2) later
    by_last rest own x (inl old) (inr new) =
        let early = own x.0 (ap look_of old ∙ x.2) old in
        let last = of_nth (λ (w : PolledTurn). w.mark < s.mark) ss j x.0 all.0.marked_last old in
        let same = ap (λ (w : PolledTurn). w.mark) new.0 in
        omega (arith, early, last, same)
    by_last rest own x (inr last) (inl later) =
        let inside = nth-inside ss k z later in
        let at = last.1 in
        absurd (omega (arith, inside, at, le))
    by_last rest own x (inr last) (inr new) =
        let look : s.look ≡ Some m = ap (λ (w : PolledTurn). w.look) last.0 ∙ x.2 in
        let late : m < s.mark = subst (λ o. IfSome o (λ l. l < s.mark)) look all.0.marked_late in
        let same = ap (λ (w : PolledTurn). w.mark) new.0 in
        omega (arith, late, same)

-- ---- one queue

module _ (i : Input) (about : BoardSizes) (own : List BoardStep) (c : HintCodes)
    (seats : List (SeatView HintStep)) (seat : SeatView HintStep) (t : Execution) (first : ℕ)
    (p : Poller) (marks : List (StepBy Mark))
    (x : IsPolling (setup_in i) first about.start p (t.turns (t.seat p.queue)) marks own
    seat.steps)
    (hashes : FlowsHaveOneHash i) (few : p.choices.room ≤ length i.packets)
    (less : p.queue < length (setup_in i).homes) where
  abbrev given : Setup
  given = setup_in i

  abbrev queues : ℕ
  queues = length given.homes

  abbrev q : Queues
  q = receive_queues i

  abbrev steering : Steering
  steering = receive_steering q

  abbrev seen : ℕ → ℕ → ℕ
  seen = words_seen queues p.queue x.polled

  abbrev size : ℕ → ℕ
  size j = steering.shape (seen j) p.queue

  -- the k-th turn, by what was noted of it
  abbrev at : (k : ℕ) (u : Turn) → nth_step (turns_of t p.queue) k ≡ Some u → TurnAt turn_of
      x.polled k u
  at k u is = turn_at turn_of x.polled k u (ap (λ us. nth_step us k) x.own ∙ is)

  is_polled : (a : List PolledTurn) (s : PolledTurn) (b : List PolledTurn)
      → x.polled ≡ a ++ s ∷ b
      → IsPolled first about.start given p.choices.room p.queue own seat.steps b s
  is_polled a s b are =
      all_at first about.start given p.choices.room p.queue own seat.steps a s b
      (subst (λ zs. AllPolled first about.start given p.choices.room p.queue own seat.steps zs)
      are x.are)

  -- the words that a turn has seen
  seen_is : (a : List PolledTurn) (s : PolledTurn) (b : List PolledTurn) (word : ℕ)
      → x.polled ≡ a ++ s ∷ b
      → seen (length b) word ≡ words_read queues p.queue s.reading word
  seen_is a s b word are =
      ap (λ (o : Option PolledTurn). words_of_turn queues p.queue o word)
      (ap (λ zs. nth_step zs (length b)) are ∙ nth-between a s b)

  size_is : (a : List PolledTurn) (s : PolledTurn) (b : List PolledTurn)
      → x.polled ≡ a ++ s ∷ b → size (length b) ≡ s.reading.flows
  size_is a s b are =
      ap (λ (z : Bool). if z then seen (length b) (queues + p.queue) else 0)
      (lt-ltb p.queue queues less)
      ∙ (seen_is a s b (queues + p.queue) are ∙ read_flows queues p.queue s.reading less)

  -- the hash of a packet is that of its flow
  hash_is : (id : ℕ) → id < p.choices.room
      → packet_hash given id ≡ hash_of_flow i (flow_number_of given id)
  hash_is id within = sym (hashes id (omega (arith, within, few)))

  module _ (a : List PolledTurn) (s : PolledTurn) (b : List PolledTurn)
      (are : x.polled ≡ a ++ s ∷ b)
      (fit : FitReceiveWords q i.plan.cpus p.queue (seen (length b))) where
    abbrev y : IsPolled first about.start given p.choices.room p.queue own seat.steps b s
    y = is_polled a s b are

    abbrev count : ℕ
    count = rounded_up (flows_in s.reading.flows)

    abbrev table : Table
    table = table_of_turn first about.start b s

    abbrev before : Table
    before = table_before about.start t steering seen count false p.queue (length b)

    flows_seen : seen (length b) (queues + p.queue) ≡ s.reading.flows
    flows_seen = seen_is a s b (queues + p.queue) are ∙ read_flows queues p.queue s.reading less

    count_is : count ≡ s.reading.flows % 2 ^ 32
    count_is =
        fits_flows s.reading.flows
        (subst (λ n. n % 2 ^ 32 ≤ 32768) flows_seen fit.flows)
        (subst (λ n. rounded_up (n % 2 ^ 32) ≡ n % 2 ^ 32) flows_seen fit.rounded)

    table_same : table ≡ before
    table_same =
        table_is x.polled size size_is first about.start a s b are
        ∙ ap (λ us. fold after_turn (cleared count about.start false)
        (map (λ (u : Turn). record { chosen = u.chosen; put = Some u.answer })
        (drop (since_resize size (length b)) us)))
        (sym (ap (λ us. take (length b) (oldest_first us)) (sym x.own ∙ ap turns_in are)
        ∙ front turn_of a s b))

    rows_are : length table.rows ≡ count
    rows_are =
        ap (λ (z : Table). length z.rows) table_same
        ∙ (fold_rows (cleared count about.start false)
        (map (λ (u : Turn). record { chosen = u.chosen; put = Some u.answer })
        (drop (since_resize size (length b))
        (take (length b) (oldest_first (turns_of t p.queue)))))
        ∙ length-replicate count (unset about.start))

    abbrev class : Option ℕ
    class = class_by about.start t steering seen p.queue (length b) s.turn

    class_same : class_read given s.turn.chosen.id table ≡ class
    class_same =
        (λ j. class_of
        ((rows_are ∙ (count_is ∙ ap (λ n. n % 2 ^ 32) (sym (size_is a s b are)))) j)
        (hash_is s.turn.chosen.id y.within j))

    online_same : online_read given p.queue s.turn.chosen.id s.reading table ≡ online q
        (seen (length b))
    online_same =
        let word : seen (length b) (2 * queues + 1) ≡ s.reading.online =
        seen_is a s b (2 * queues + 1) are ∙ read_online queues p.queue s.reading less in
        fits_cpus s.reading.online given.cpus
        (subst (λ n. n < 2 ^ i.plan.cpus) word fit.online)
        ∙ ap mask (sym word)

    plain_same : plain_read given p.queue s.turn.chosen.id s.reading table
        ≡ rps q (seen (length b)) p.queue (flow_number_of given s.turn.chosen.id)
    plain_same =
        let word : seen (length b) p.queue ≡ s.reading.mask =
        seen_is a s b p.queue are ∙ read_mask queues p.queue s.reading less in
        (λ j. rps_choice_of
        ((fits_cpus s.reading.mask given.cpus
        (subst (λ n. n < 2 ^ i.plan.cpus) word fit.mask) ∙ ap mask (sym word)) j)
        (hash_is s.turn.chosen.id y.within j) (online_same j) (slice_index given.homes p.queue))
        ∙ sym (ap (λ (z : Bool). if z
        then rps_choice_of (mask (seen (length b) p.queue))
        (hash_of_flow i (flow_number_of given s.turn.chosen.id)) (online q (seen (length b)))
        (slice_index given.homes p.queue) else 0)
        (lt-ltb p.queue queues less))

    abbrev head : ℕ
    head = unwrap_or y.head 0

    goal_same : (k w : Option ℕ)
        → goal k w (online q (seen (length b)))
        (rps q (seen (length b)) p.queue (flow_number_of given s.turn.chosen.id))
        ≡ goal_of steering (seen (length b)) p.queue (flow_number_of given s.turn.chosen.id) k w
    goal_same None w = refl
    goal_same (Some k) w = refl

    rule_is : s.turn.chosen.choice
        ≡ migrate class s.turn.chosen.choice.want
        (goal_by about.start t steering seen p.queue (length b) s.turn) (entries before)
        (λ _. head) (steering.online (seen (length b)))
    rule_is =
        own_want (class_read given s.turn.chosen.id table) y.want
        (online_read given p.queue s.turn.chosen.id s.reading table)
        (plain_read given p.queue s.turn.chosen.id s.reading table) (entries table) (λ _. head)
        s.turn.chosen.choice y.rule
        ∙ ((λ j. migrate (class_same j) s.turn.chosen.choice.want
        (goal (class_same j) s.turn.chosen.choice.want (online_same j) (plain_same j))
        (entries (table_same j)) (λ _. head) (has (online_same j)))
        ∙ ap (λ g. migrate class s.turn.chosen.choice.want g (entries before) (λ _. head)
        (has (online q (seen (length b)))))
        (goal_same class s.turn.chosen.choice.want))

    rows_below : (k : ℕ) → class ≡ Some k → k < count
    rows_below k is =
        subst (λ n. k < n) rows_are
        (subst (IsClassOf table) (class_same ∙ is)
        (class_is table (packet_hash given s.turn.chosen.id)))

    -- a head that the choice keeps was loaded
    head_loaded : (o : Option ℕ) (k l : ℕ)
        → IfSome o (LoadedHead before (Some k) s.turn.early)
        → is_some o
        ≡ looks_at_head (class_read given s.turn.chosen.id table) (entries table)
        (desired_read given p.queue s.turn.chosen.id s.reading table y.want)
        (has (online_read given p.queue s.turn.chosen.id s.reading table))
        → s.turn.chosen.choice
        ≡ migrate (class_read given s.turn.chosen.id table) y.want
        (desired_read given p.queue s.turn.chosen.id s.reading table y.want) (entries table)
        (λ _. unwrap_or o 0) (has (online_read given p.queue s.turn.chosen.id s.reading table))
        → (entries before k).lane ≡ Some l → s.turn.chosen.choice.head ≡ Some (unwrap_or o 0)
        → (w : ℕ) × Contains s.turn.early (Weighed l w) × (w % 2 ^ 32 ≡ unwrap_or o 0)
    head_loaded (Some n) k l (lane, word, there, is, has) looked rule at keeps = (
      word,
      subst (λ m. Contains s.turn.early (Weighed m word)) (some-is lane l (sym there ∙ at)) has,
      sym is,
    )
    head_loaded None k l loads looked rule at keeps =
        absurd (true≢false (sym (looked ∙ rule_looks
        (class_read given s.turn.chosen.id table) y.want
        (desired_read given p.queue s.turn.chosen.id s.reading table y.want) (entries table)
        (λ _. 0) (has (online_read given p.queue s.turn.chosen.id s.reading table)) 0
        (sym (ap (λ (z : Choice). z.head) rule) ∙ keeps))))

    turn_by_table : IsByTable about.start t steering seen p.queue (length b) s.turn
    turn_by_table =
        record {
          head = head;
          count = count;
          exact = false;
          rule = rule_is;
          rows = rows_below;
          loaded = λ k l is lane keeps.
              head_loaded y.head k l
              (subst (λ (z : Table × Option ℕ). IfSome y.head
              (LoadedHead z.0 z.1 s.turn.early))
              (λ j. (table_same j, (class_same ∙ is) j)) y.loads)
              y.looked y.rule lane keeps;
        }

  -- ---- all turns

  coupled : AreShared c → Contains seats seat
      → (q : IsQueueCoupled i about own c seats t p.queue (words_seen queues p.queue x.polled))
      × ((less : p.queue < length i.plan.queues) → IsMarkedBy i c seats t p.queue
      (words_seen queues p.queue x.polled) (q.wants less) seat marks)
  coupled codes among = (
    record {
      hashes = λ k u is.
          (let z = at k u is in
          let y = is_polled z.newer z.s z.older z.are in
          subst (λ (v : Turn). v.hash ≡ packet_hash given v.chosen.id) z.turn_is y.hash);
      knows = λ k u is. (let z = at k u is in
          subst (λ (v : Turn × ℕ). HasSeen own q p.queue v.0 (seen v.1))
          (λ j. (z.turn_is j, z.before j)) (knows_it z.newer z.s z.older z.are));
      knows_sock = λ k u is. (let z = at k u is in
          subst (λ (v : Turn × ℕ). Knows own v.0 (2 * queues) (seen v.1 (2 * queues)))
          (λ j. (z.turn_is j, z.before j)) (knows_socket z.newer z.s z.older z.are));
      by_table = λ k u is fit. (let z = at k u is in
          subst (λ (v : Turn × ℕ). IsByTable about.start t steering seen p.queue v.1 v.0)
          (λ j. (z.turn_is j, z.before j))
          (turn_by_table z.newer z.s z.older z.are
          (subst (λ n. FitReceiveWords q i.plan.cpus p.queue (seen n)) (sym z.before) fit)));
      wants = λ _. record {
        seat = seat;
        among = among;
        step = λ k. look_of (nth_step x.polled k);
        each = λ k u is. (let z = at k u is in
            subst (λ (v : Turn × ℕ). LookedUp c given.cpus seat
            (entry_of (seen v.1 (2 * queues)) v.0.chosen.choice.class
            (packet_hash given v.0.chosen.id)) (look_of (nth_step x.polled v.1))
            v.0.chosen.choice.want)
            (λ j. (z.turn_is j, z.before j)) (was_looked z.newer z.s z.older z.are));
        order = looks_rise first about.start given p.choices.room p.queue own seat.steps x.polled
            x.are;
        mark = λ k. mark_of (nth_step x.polled k);
        before = λ j k m u le is look. (let z = at k u is in
            let there = nth_is z.newer z.s z.older z.are k z.before in
            subst (λ n. m < n) (sym (ap mark_of there))
            (looks_before first about.start given p.choices.room p.queue own seat.steps x.polled
            x.are j k m z.s le look there));
      };
    },
    λ within. record {
      seat_is = refl;
      each = λ k m is. (let z = turn_at mark_in x.polled k m
          (ap (λ ms. nth_step ms k) x.marked ∙ is) in
          let there = nth_is z.newer z.s z.older z.are k z.before in (
            z.s.turn,
            ap (λ us. nth_step us k) (sym x.own) ∙ nth-map turn_of x.polled k z.s there,
            ap (λ (n : Mark). n.packet) z.turn_is,
            ap mark_of there ∙ ap (λ (n : Mark). n.number) z.turn_is,
          ));
    },
  )
    where
      nth_is : (a : List PolledTurn) (s : PolledTurn) (b : List PolledTurn)
          → x.polled ≡ a ++ s ∷ b → (k : ℕ) → length b ≡ k → nth_step x.polled k ≡ Some s
      nth_is a s b are k before =
          ap (λ n. nth_step x.polled n) (sym before)
          ∙ (ap (λ zs. nth_step zs (length b)) are ∙ nth-between a s b)

      reads_of : (a : List PolledTurn) (s : PolledTurn) (b : List PolledTurn)
          (are : x.polled ≡ a ++ s ∷ b) (word value : ℕ)
          → words_read queues p.queue s.reading word ≡ value
          → ReadsIn own (openings_in s.turn.word) word value
          → Knows own s.turn word (seen (length b) word)
      reads_of a s b are word value is read =
          inr (subst (ReadsIn own (openings_in s.turn.word) word)
          (sym (seen_is a s b word are ∙ is)) read)

      knows_it : (a : List PolledTurn) (s : PolledTurn) (b : List PolledTurn)
          → x.polled ≡ a ++ s ∷ b → HasSeen own q p.queue s.turn (seen (length b))
      knows_it a s b are =
          let y = is_polled a s b are in
          record {
            mask = reads_of a s b are p.queue s.reading.mask
                (read_mask queues p.queue s.reading less)
                y.reads.mask;
            flows = reads_of a s b are (queues + p.queue) s.reading.flows
                (read_flows queues p.queue s.reading less)
                y.reads.flows;
            online = reads_of a s b are (2 * queues + 1) s.reading.online
                (read_online queues p.queue s.reading less)
                y.reads.online;
          }

      knows_socket : (a : List PolledTurn) (s : PolledTurn) (b : List PolledTurn)
          → x.polled ≡ a ++ s ∷ b
          → Knows own s.turn (2 * queues) (seen (length b) (2 * queues))
      knows_socket a s b are =
          reads_of a s b are (2 * queues) s.reading.socket
          (read_socket queues p.queue s.reading less)
          (is_polled a s b are).reads.socket

      was_looked : (a : List PolledTurn) (s : PolledTurn) (b : List PolledTurn)
          → x.polled ≡ a ++ s ∷ b
          → LookedUp c given.cpus seat
          (entry_of (seen (length b) (2 * queues)) s.turn.chosen.choice.class
          (packet_hash given s.turn.chosen.id)) (look_of (nth_step x.polled (length b)))
          s.turn.chosen.choice.want
      was_looked a s b are =
          let y = is_polled a s b are in
          let table : Table = table_of_turn first about.start b s in
          let class = class_read given s.turn.chosen.id table in
          let hash = packet_hash given s.turn.chosen.id in
          subst (λ (v : ℕ × Option ℕ). LookedUp c given.cpus seat
          (entry_of v.0 s.turn.chosen.choice.class hash) v.1 s.turn.chosen.choice.want)
          (λ j. (
            sym (seen_is a s b (2 * queues) are ∙ read_socket queues p.queue s.reading less) j,
            sym (ap look_of (ap (λ zs. nth_step zs (length b)) are ∙ nth-between a s b)) j,
          ))
          (coded_look c codes given.cpus seat
          (entry_of s.reading.socket s.turn.chosen.choice.class hash) s.look
          s.turn.chosen.choice.want
          (choice_looked given.cpus s.reading.socket class y.want
          (desired_read given p.queue s.turn.chosen.id s.reading table y.want) (entries table)
          (λ _. unwrap_or y.head 0)
          (has (online_read given p.queue s.turn.chosen.id s.reading table)) hash seat.steps s.look
          s.turn.chosen.choice y.rule y.looks))

pub pollers_are_coupled : PollersAreCoupled
pollers_are_coupled i about own c seats seat t first p marks x hashes few less codes among =
    coupled i about own c seats seat t first p marks x hashes few less codes among

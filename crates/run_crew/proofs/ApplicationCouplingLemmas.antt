-- An application's record gives its coupling invariants.
use Rattle.std.proofs.Common.{IfSome, true≢false}
use Rattle.std.specs.List.{range_with_len}
use Rattle.std.specs.Option.{is_some}
use Rattle.std.proofs.lemmas.Bool.Decides.{nat_tests}
use Rattle.std.proofs.lemmas.Option.{get_or_from_slice_get, slice_get_within}
use Rattle.steer_base.specs.Sends.{first_filled, pick_of}
use Rattle.steer_base.specs.Sets.{at_hash, has_queue, those_below}
use Rattle.steer_base.proofs.SetsLemmas.{those_below-same}
use Rattle.dev_flow_table.specs.Tables.{entries}
use Rattle.history.specs.Lists.{arrival_of, no_arrival}
use Rattle.history.specs.declared.sock_write.SockWrite.{SockWrite}
use Rattle.history.proofs.RegularLemmas.{arrival-at}
use Rattle.xps_map.specs.Maps.{picked, serves_cpu, serves_queue}
use Rattle.hop_rule.specs.Boards.{gate_steps}
use Rattle.hop_rule.specs.Gates.{visit}
use Rattle.hop_rule.specs.Moments.{past}
use Rattle.hop_rule.specs.declared.step.GateStep.TheVariants.{Read}
use Rattle.hop_rule.proofs.Moments.{nth-between, past-between}
use Rattle.hop_delivery.specs.Closings.TurnReads.{KnowsMaps}
use Rattle.hop_delivery.specs.Orders.ReceiveSettings.{mask}
use Rattle.hop_delivery.specs.Orders.Runs.{Steering}
use Rattle.hop_delivery.specs.Orders.TransmitSettings.{pick_by, transmit_steering}
use Rattle.steer_model.specs.State.Setup.{flow_number_of}
use Rattle.run_words.specs.Values.{cpus_in, queues_in}
use Rattle.run_words.specs.declared.hint_word.HintWord.TheVariants as hint
use Rattle.run_words.specs.declared.hint_word.TheConstants.{STAND_WORDS}
use Rattle.board_api.specs.OwnSteps.{ReadsIn}
use Rattle.board_api.specs.StepWords.{openings_in}
use Rattle.run_workers.specs.Hands.Pollers.{LoadedHead}
use Rattle.run_workers.specs.Hands.Servers.{HasFlowsBelow, queue_by, queue_if}
use Rattle.run_workers.specs.declared.server.Server.{Server}
use Rattle.run_coupling.specs.Coupling.Applications.{FitTransmitWords, WasFoundAt}
use Rattle.run_coupling.specs.Coupling.Ends.{AllArrived}
use Rattle.run_coupling.specs.Coupling.Hints.{AreRecorded, CameBy, Says, Stands, WasLoaded, WasRead}
use Rattle.run_coupling.specs.Coupling.OwnTables.{IsByTable, table_before}
use Rattle.run_crew.specs.ApplicationCoupling.{AreMadeFor, IsApplicationCoupled, maps_seen}
use Rattle.run_crew.specs.ApplicationCoupling.{words_of_reply}
use Rattle.run_workers.specs.Records.Growth.{held}
use Rattle.run_workers.specs.Records.Replying.{EachReplied, HasWrittenAll, HasCome, HasFound}
use Rattle.run_workers.specs.Records.Replying.{HasReadInside, HasStood, IsReplied, HasWritten}
use Rattle.run_workers.specs.Records.Replying.{RepliedTurn, replies_in, replied_table, taken_by}
use Rattle.run_workers.specs.Records.Replying.{reply_turns}
use Rattle.run_workers.proofs.Records.ListLemmas.{append_none}
use Rattle.run_crew.proofs.Names.{◌≡◌, ◌⊎◌, inl, inr, ℕ, zero, suc, ◌+◌, ◌-◌, ◌*◌, ◌%◌, ◌^◌, ◌<◌}
use Rattle.run_crew.proofs.Names.{◌≤◌, ◌==◌, Bool, true, false, List, [], ◌∷◌, ◌++◌, Option, None}
use Rattle.run_crew.proofs.Names.{Some, if◌then◌else◌, length, map, take, drop, All, sym, refl, ap}
use Rattle.run_crew.proofs.Names.{◌∙◌, subst, arith, nat_le, nat_lt, slice_get, unwrap_or, Contains}
use Rattle.run_crew.proofs.Names.{fold, option_map, cases_lt, lt-ltb, length-map, map-append}
use Rattle.run_crew.proofs.Names.{All-cons, All-head, All-nil, All-tail, length-range_with_len}
use Rattle.run_crew.proofs.Names.{slice_get-map, StepBy, steps_of, SeatView, class_of}
use Rattle.run_crew.proofs.Names.{looks_at_head, migrate, has, Choice, since_resize, after_turn}
use Rattle.run_crew.proofs.Names.{Table, cleared, Arrival, History, Sent, HintStep, Load, nth_step}
use Rattle.run_crew.proofs.Names.{BoardSizes, BoardStep, Gate, Lane, Weighed, OutHeld, none-some}
use Rattle.run_crew.proofs.Names.{some-is, Execution, turns_of, Turn, QueuePlan, Input, setup_in}
use Rattle.run_crew.proofs.Names.{Setup, packet_hash, place_in, socket_size_in, hint_number}
use Rattle.run_crew.proofs.Names.{AreShared, HintCodes, word-says, oldest_first}
use Rattle.run_crew.proofs.Names.{ApplicationsAreCoupled, IsReplying, Note}
use Rattle.run_crew.proofs.ChoiceFunctions.{at-place}
use Rattle.run_crew.proofs.NoteLemmas.{made-for}
use Rattle.run_crew.proofs.RuleLemmas.{rule_looks, rule_want}
use Rattle.run_crew.proofs.TurnListLemmas.{TurnAt, front, has_number, place, since_more, turn_at}

-- without an entry for a hash the size is 0
no_size : (n hash : ℕ) → class_of n (Some hash) ≡ None → n ≡ 0
no_size n hash is = by_test (nat_lt 0 n) refl is
  where
    by_test : (b : Bool) → nat_lt 0 n ≡ b → (if b then Some (hash % n) else None) ≡ None → n ≡ 0
    by_test true some is = none-some (hash % n) (sym is)
    by_test false none is = grind (arith, nat_tests)

abbrev write_of : Note → SockWrite
write_of n = n.write

module _ (i : Input) (h : History) (rx_own : ℕ → List BoardStep) (rx_seat : ℕ) (c : HintCodes)
    (seats : List (SeatView HintStep)) (seat : SeatView HintStep) (codes : AreShared c)
    (among : Contains seats seat) where
  abbrev given : Setup
  given = setup_in i

  pub found_at : (o k id : ℕ) → HasFound (rx_own rx_seat) o k id → WasFoundAt rx_own o k id
  found_at o k id x =
      let n = has_number (rx_own rx_seat) (Lane (OutHeld o x.word x.found)) x.held in
      record {
        seat = rx_seat;
        step = n.0;
        word = x.word;
        found = x.found;
        does = n.1;
        there = x.there;
      }

  -- ---- loads

  loaded : (word value number coded : ℕ) → Contains seat.steps (Load number coded)
      → word ≡ number → value ≡ coded → WasLoaded seats word value
  loaded word value number coded has a b =
      record {
        seat = seat;
        among = among;
        loads = subst (λ (d : HintStep). Contains seat.steps d) (λ j. Load (sym a j) (sym b j)) has;
      }

  pub stood_at : (a home cpu : ℕ) → slice_get i.plan.apps a ≡ Some home
      → HasStood given.cpus a home seat.steps cpu → Stands i h c seats a cpu
  stood_at a home cpu is (word, said, has) = by_word (place_in word given.cpus) refl said
    where
      was : WasLoaded seats (c.stand a) word
      was = loaded (c.stand a) word (STAND_WORDS + a) word has (codes.stand a) refl

      by_word : (o : Option ℕ) → place_in word given.cpus ≡ o → cpu ≡ unwrap_or o home
          → Stands i h c seats a cpu
      by_word None none same =
          inr (
            (word, was, word-says c codes word given.cpus None none),
            is ∙ ap (λ n. Some n) (sym same),
          )
      by_word (Some n) some same =
          inl (
            word,
            was,
            word-says c codes word given.cpus (Some cpu) (some ∙ ap (λ m. Some m) (sym same)),
          )

  pub came_by : (id rxq : ℕ) → AllArrived i h
      → HasCome (length given.homes) h.arrivals seat.steps id rxq → CameBy i h c seats id rxq
  came_by id rxq arrived (word, said, has) =
      by_word (place_in word (length given.homes)) refl said
    where
      arrived_at : (o : Option Arrival) → slice_get h.arrivals id ≡ o
          → queue_if id o ≡ Some rxq → (arrival_of h.arrivals id).queue ≡ rxq
      arrived_at None at is = none-some rxq is
      arrived_at (Some a) at is =
          let within = slice_get_within h.arrivals id a at in
          let n = ap length arrived ∙ length-range_with_len 0 (length i.packets) in
          let m = sym (length-map h.arrivals (λ (b : Arrival). b.id)) ∙ n in
          let numbered = arrived ∙ ap (range_with_len 0) (sym m) in
          ap (λ (b : Arrival). b.queue)
          (arrival-at id h.arrivals numbered within
          ∙ get_or_from_slice_get h.arrivals id a no_arrival at)
          ∙ by_id (a.id == id) is
        where
          by_id : (b : Bool) → (if b then Some a.queue else None) ≡ Some rxq → a.queue ≡ rxq
          by_id true is = some-is a.queue rxq is
          by_id false is = none-some rxq is

      was : WasLoaded seats (c.packet id) word
      was = loaded (c.packet id) word (hint_number (hint.Queue id)) word has (codes.packet id) refl

      says : (o : Option ℕ) → place_in word (length given.homes) ≡ o
          → Says c (length i.plan.queues) word o
      says o is =
          word-says c codes word (length i.plan.queues) o
          (ap (place_in word) (sym (length-map i.plan.queues (λ (q : QueuePlan). q.home))) ∙ is)

      by_word : (o : Option ℕ) → place_in word (length given.homes) ≡ o
          → queue_by o h.arrivals id ≡ Some rxq → CameBy i h c seats id rxq
      by_word None none is =
          inr ((word, was, says None none), arrived_at (slice_get h.arrivals id) refl is)
      by_word (Some q) some is = inl (word, was, says (Some rxq) (some ∙ is))

  -- ---- writes

  read_at : (size : ℕ) → HasReadInside (rx_own rx_seat) (2 * length given.homes) size
      → WasRead i h c seats rx_own size
  read_at size x =
      let d : BoardStep = Gate (Read (2 * length given.homes) size) in
      record {
        seat = rx_seat;
        step = length x.older;
        does = ap (λ ds. nth_step ds (length x.older)) x.are ∙ nth-between x.newer d x.older;
        in_visit = ap (λ ds. visit (gate_steps ds))
            (ap (past (length x.older)) x.are ∙ past-between x.newer d x.older)
            ∙ x.in_visit;
      }

  pub recorded : (a home : ℕ) → slice_get i.plan.apps a ≡ Some home → (xs : List ℕ)
      (ns : List Note) → HasWrittenAll given a home (rx_own rx_seat) seat.steps xs ns
      → AreRecorded i h c seats rx_own a xs (map write_of ns)
  recorded a home is [] ns none = ap (map write_of) none
  recorded a home is (x ∷ xs) ns (size, rest, read, one, more) =
      by_hash (recorded a home is xs rest more) (packet_hash given x) refl (nat_le size 65536) refl
    where
      written : (entry : Option ℕ)
          → HasWritten given a home (rx_own rx_seat) seat.steps x entry rest ns
          → (entry ≡ None) × (map write_of ns ≡ map write_of rest)
          ⊎ ((e : ℕ) × (w : SockWrite) × (entry ≡ Some e) × (w.entry ≡ e)
          × (map write_of ns ≡ w ∷ map write_of rest) × Stands i h c seats a w.cpu)
      written None same = inl (refl, ap (map write_of) same)
      written (Some e) (cpu, stood, same) = inr (
        e,
        record { entry = e; cpu = cpu },
        refl,
        refl,
        ap (map write_of) same,
        stood_at a home cpu is stood,
      )

      by_hash : AreRecorded i h c seats rx_own a xs (map write_of rest) → (o : Option ℕ)
          → packet_hash given x ≡ o → (b : Bool) → nat_le size 65536 ≡ b
          → AreRecorded i h c seats rx_own a (x ∷ xs) (map write_of ns)
      by_hash later None none b small =
          inl (
            none,
            subst (AreRecorded i h c seats rx_own a xs)
                (sym (ap (map write_of) (subst (λ o. HasWritten given a home (rx_own rx_seat)
                seat.steps x (class_of (socket_size_in size) o) rest ns) none one))) later,
          )
      by_hash later (Some hash) some true small =
          elim (written (class_of size (Some hash))
          (subst (λ (z : Option ℕ × ℕ). HasWritten given a home (rx_own rx_seat) seat.steps x
          (class_of z.1 z.0) rest ns)
          (λ j. (some j, ap (λ (b : Bool). if b then size else 0) small j)) one)) [
            | inl none ↦ inr (inr (
              hash,
              size,
              some,
              read_at size read,
              λ le. no_size size hash none.0,
              subst (AreRecorded i h c seats rx_own a xs) (sym none.1) later,
            ))
            | inr w ↦ inr (inl (
              hash,
              w.1,
              map write_of rest,
              size,
              some,
              w.4,
              read_at size read,
              w.2 ∙ ap (λ n. Some n) (sym w.3),
              w.5,
              later,
            ))
          ]
      by_hash later (Some hash) some false small =
          inr (inr (
            hash,
            size,
            some,
            read_at size read,
            λ le. absurd (beyond size small le),
            subst (AreRecorded i h c seats rx_own a xs)
                (sym (ap (map write_of) (subst (λ (z : Option ℕ × ℕ). HasWritten given a home
                (rx_own rx_seat) seat.steps x (class_of z.1 z.0) rest ns)
                (λ j. (some j, ap (λ (b : Bool). if b then size else 0) small j)) one))) later,
          ))
        where
          beyond : (n : ℕ) → nat_le n 65536 ≡ false → n ≤ 65536 → ⊥
          beyond n test le = grind (arith, nat_tests)

-- ---- turns

abbrev turn_of : RepliedTurn → Turn
turn_of r = r.turn

since_none : (k : ℕ) → since_resize (λ j. 0) k ≡ 0
unfolding since_resize
since_none zero = refl
since_none (suc k) = since_none k

all_at : (rows start : ℕ) (setup : Setup) (packets app home : ℕ) (arrivals : List Arrival)
    (hints : List HintStep) (tx : List BoardStep) (newer : List RepliedTurn) (r : RepliedTurn)
    (older : List RepliedTurn)
    → EachReplied rows start setup packets app home arrivals hints tx (newer ++ r ∷ older)
    → IsReplied rows start setup packets app home arrivals hints tx older r
all_at rows start setup packets app home arrivals hints tx [] r older all = all.0
all_at rows start setup packets app home arrivals hints tx (x ∷ newer) r older all =
    all_at rows start setup packets app home arrivals hints tx newer r older all.1

-- the table after turns is the one that was told of all of them
table_told : (rows start : ℕ) (rs : List RepliedTurn)
    → replied_table rows start rs
    ≡ fold after_turn (cleared rows start true)
    (map (λ (u : Turn). record { chosen = u.chosen; put = Some u.answer })
    (drop 0 (oldest_first (reply_turns rs))))
table_told rows start [] = refl
table_told rows start (r ∷ rs) =
    ap (λ z. after_turn z (record { chosen = r.turn.chosen; put = Some r.turn.answer }))
    (table_told rows start rs)
    ∙ sym (since_more (cleared rows start true) 0 (reply_turns rs) r.turn (omega arith))

module _ (i : Input) (about : BoardSizes) (own : List BoardStep) (arrivals : List Arrival)
    (rx : List BoardStep) (hints : List HintStep) (t : Execution) (rows : ℕ) (s : Server)
    (noted : List (StepBy Note))
    (x : IsReplying (setup_in i) rows about.start arrivals s (t.turns (t.seat s.app)) noted rx own
    hints)
    (below : HasFlowsBelow (setup_in i) s.sent.room rows) where
  abbrev plan_setup : Setup
  plan_setup = setup_in i

  abbrev txs : ℕ
  txs = length i.plan.tx

  abbrev steering : Steering
  steering = transmit_steering (flow_number_of plan_setup)

  abbrev seen : ℕ → ℕ → ℕ
  seen = maps_seen x.replied

  abbrev at : (k : ℕ) (u : Turn) → nth_step (turns_of t s.app) k ≡ Some u
      → TurnAt turn_of x.replied k u
  at k u is = turn_at turn_of x.replied k u (ap (λ us. nth_step us k) x.own ∙ is)

  module _ (a : List RepliedTurn) (r : RepliedTurn) (b : List RepliedTurn)
      (are : x.replied ≡ a ++ r ∷ b) where
    abbrev y : IsReplied rows about.start plan_setup s.sent.room s.app s.home arrivals hints own b r
    y = all_at rows about.start plan_setup s.sent.room s.app s.home arrivals hints own a r b
        (subst (λ zs. EachReplied rows about.start plan_setup s.sent.room s.app s.home arrivals
        hints own zs) are x.are)

    seen_is : (word : ℕ) → seen (length b) word ≡ r.words word
    seen_is word =
        ap (λ (o : Option RepliedTurn). words_of_reply o word)
        (ap (λ zs. nth_step zs (length b)) are ∙ nth-between a r b)

    abbrev table : Table
    table = replied_table rows about.start b

    abbrev before : Table
    before = table_before about.start t steering seen rows true s.app (length b)

    table_same : table ≡ before
    table_same =
        table_told rows about.start b
        ∙ (λ j. fold after_turn (cleared rows about.start true)
        (map (λ (u : Turn). record { chosen = u.chosen; put = Some u.answer })
        (drop (sym (since_none (length b)) j)
        (sym (ap (λ us. take (length b) (oldest_first us)) (sym x.own ∙ ap reply_turns are)
        ∙ front turn_of a r b) j))))

    abbrev flow : ℕ
    flow = flow_number_of plan_setup r.sent.id

    abbrev pick : ℕ
    pick = picked y.maps r.sent.rxq r.sent.cpu (packet_hash plan_setup r.sent.id)

    abbrev head : ℕ
    head = unwrap_or y.head 0

    want_is : r.turn.chosen.choice.want ≡ Some pick
    want_is =
        ap (λ (z : Choice). z.want) y.rule
        ∙ rule_want flow (Some pick) pick (entries table) (λ _. head) (λ _. true)

    flow_is : flow ≡ flow_number_of plan_setup r.turn.chosen.id
    flow_is = ap (flow_number_of plan_setup) (sym y.id_is)

    rule_is : r.turn.chosen.choice
        ≡ migrate (Some (flow_number_of plan_setup r.turn.chosen.id)) r.turn.chosen.choice.want
        (unwrap_or r.turn.chosen.choice.want 0) (entries before) (λ _. head) (λ _. true)
    rule_is =
        y.rule
        ∙ (λ j. migrate (Some (flow_is j)) (sym want_is j) (unwrap_or (sym want_is j) 0)
        (entries (table_same j)) (λ _. head) (λ _. true))

    head_loaded : (o : Option ℕ) (k l : ℕ)
        → IfSome o (LoadedHead before (Some k) r.turn.early)
        → is_some o ≡ looks_at_head (Some flow) (entries table) pick (λ _. true)
        → r.turn.chosen.choice
        ≡ migrate (Some flow) (Some pick) pick (entries table) (λ _. unwrap_or o 0) (λ _. true)
        → (entries before k).lane ≡ Some l → r.turn.chosen.choice.head ≡ Some (unwrap_or o 0)
        → (w : ℕ) × Contains r.turn.early (Weighed l w) × (w % 2 ^ 32 ≡ unwrap_or o 0)
    head_loaded (Some n) k l (lane, word, there, is, has) looked rule lane_is keeps = (
      word,
      subst (λ m. Contains r.turn.early (Weighed m word)) (some-is lane l (sym there ∙ lane_is))
          has,
      sym is,
    )
    head_loaded None k l loads looked rule lane_is keeps =
        absurd (true≢false (sym (looked ∙ rule_looks (Some flow) (Some pick) pick (entries table)
        (λ _. 0) (λ _. true) 0 (sym (ap (λ (z : Choice). z.head) rule) ∙ keeps))))

    reply_by_table : IsByTable about.start t steering seen s.app (length b) r.turn
    reply_by_table =
        record {
          head = head;
          count = rows;
          exact = true;
          rule = rule_is;
          rows = λ k is.
              subst (λ n. n < rows)
              (some-is flow k (ap (λ n. Some n) flow_is ∙ is)) (below r.sent.id y.within);
          loaded = λ k l is lane keeps.
              head_loaded y.head k l
              (subst (λ (z : Table × ℕ). IfSome y.head (LoadedHead z.0 (Some z.1) r.turn.early))
              (λ j. (
                table_same j,
                some-is flow k (ap (λ n. Some n) flow_is ∙ is) j,
              )) y.loads)
              y.looked y.rule lane keeps;
        }

    knows_all : KnowsMaps own txs r.turn (seen (length b))
    knows_all word less =
        inr (subst (λ n. ReadsIn own (openings_in r.turn.word) word n) (sym (seen_is word))
        (elim (cases_lt word txs) [
          | inl low ↦ y.cpu_reads word low
          | inr high ↦
              subst (λ w. ReadsIn own (openings_in r.turn.word) w (r.words w))
              (again word txs high) (y.queue_reads (word - txs) (omega (arith, high, less)))
        ]))
      where
        again : (w n : ℕ) → n ≤ w → n + (w - n) ≡ w
        again w n le = omega arith

    pick_is : FitTransmitWords i.plan.cpus (length i.plan.queues) txs (seen (length b))
        → pick ≡ pick_by txs (seen (length b)) r.sent.rxq r.sent.cpu
        (packet_hash plan_setup r.sent.id)
    pick_is fit =
        let w : ℕ → ℕ = seen (length b) in
        let by_queue = those_below-same txs (λ tx. serves_queue y.maps tx r.sent.rxq)
        (λ tx. has_queue (w (txs + tx)) r.sent.rxq)
        (λ tx less. ap (λ n. has_queue n r.sent.rxq)
        (y.queues_are tx less
        ∙ (ap (λ n. queues_in n (length plan_setup.homes)) (sym (seen_is (txs + tx)))
        ∙ ap (λ (z : Bool). if z then w (txs + tx) else 0)
        (lt-ltb (w (txs + tx)) (2 ^ length plan_setup.homes)
        (subst (λ n. w (txs + tx) < 2 ^ n)
        (sym (length-map i.plan.queues (λ queue. queue.home))) (fit.queue_sets tx less)))))) in
        let by_cpu = those_below-same txs (λ tx. serves_cpu y.maps tx r.sent.cpu)
        (λ tx. has (mask (w tx)) r.sent.cpu)
        (λ tx less. ap (λ m. has m r.sent.cpu)
        (y.cpus_are tx less
        ∙ (ap (λ n. cpus_in n plan_setup.cpus) (sym (seen_is tx))
        ∙ ap (λ (z : Bool). record { 0 = if z then w tx else 0 })
        (lt-ltb (w tx) (2 ^ plan_setup.cpus) (fit.cpu_sets tx less))))) in
        ap (λ n. pick_of n (serves_queue y.maps) (serves_cpu y.maps) r.sent.rxq r.sent.cpu
        (packet_hash plan_setup r.sent.id)) y.count
        ∙ (λ k.
        at_hash (first_filled (by_queue k) (by_cpu k) (those_below txs (λ tx. true)))
        (unwrap_or (packet_hash plan_setup r.sent.id) 0))

    -- the reply at the place of the turn
    sent_is : (z : Sent) → slice_get s.sent.items (length b) ≡ Some z → r.sent ≡ z
    sent_is z there =
        some-is r.sent z
        (sym (ap (λ zs. slice_get zs (length b))
        (x.replies ∙ ap replies_in are)
        ∙ (slice_get-map (λ (r : RepliedTurn). r.sent) (oldest_first (a ++ r ∷ b)) (length b)
        ∙ ap (option_map (λ (r : RepliedTurn). r.sent)) (place a r b)))
        ∙ there)

-- ---- all

module _ (i : Input) (h : History) (rx_own : ℕ → List BoardStep) (rx_seat : ℕ)
    (about : BoardSizes) (own : List BoardStep) (c : HintCodes)
    (seats : List (SeatView HintStep)) (seat : SeatView HintStep) (t : Execution) (rows : ℕ)
    (s : Server) (noted : List (StepBy Note))
    (x : IsReplying (setup_in i) rows about.start h.arrivals s (t.turns (t.seat s.app)) noted
    (rx_own rx_seat) own seat.steps) where
  each : (P : Sent → Type 0) (rs : List RepliedTurn)
      → ((r : RepliedTurn) (b : List RepliedTurn)
      → IsReplied rows about.start (setup_in i) s.sent.room s.app s.home h.arrivals seat.steps own b
      r → P r.sent)
      → EachReplied rows about.start (setup_in i) s.sent.room s.app s.home h.arrivals seat.steps own
      rs
      → All P (replies_in rs)
  each P [] give all = All-nil P
  each P (r ∷ rs) give all =
      subst (All P) (sym (map-append (λ (z : RepliedTurn). z.sent) (oldest_first rs) (r ∷ [])))
      (all_last P (replies_in rs) r.sent (each P rs give all.1) (give r rs all.0))
    where
      all_last : (P : Sent → Type 0) (xs : List Sent) (z : Sent) → All P xs → P z
          → All P (xs ++ z ∷ [])
      all_last P [] z xs is = All-cons P z [] is (All-nil P)
      all_last P (y ∷ xs) z all is =
          All-cons P y (xs ++ z ∷ []) (All-head P y xs all)
          (all_last P xs z (All-tail P y xs all) is)

  coupled : AllArrived i h → HasFlowsBelow (setup_in i) s.sent.room rows
      → slice_get i.plan.apps s.app ≡ Some s.home → AreShared c → Contains seats seat
      → s.hand ≡ None
      → (reply : ℕ → ℕ) × IsApplicationCoupled i h rx_own about own c seats t s.app noted
      s.sent.items s.writes.items (maps_seen x.replied) reply
  coupled arrived below home codes among empty =
      let taken : taken_by s ≡ map (λ (z : Sent). z.id) s.sent.items =
      ap (λ o. map (λ (z : Sent). z.id) s.sent.items ++ held o) empty
      ∙ append_none (map (λ (z : Sent). z.id) s.sent.items) in
      let notes : List Note = oldest_first (steps_of s.app noted) in
      let made = made-for i s.app s.home (rx_own rx_seat) seat.steps
      (at-place (λ cpu. cpu < i.plan.cpus) i.plan.apps s.app s.home i.plan.within.apps_within home)
      h rx_own c seats (read_at i h rx_own rx_seat c seats seat codes among) s.sent.items notes
      (subst (λ ids. HasWrittenAll (setup_in i) s.app s.home (rx_own rx_seat) seat.steps ids notes)
      taken x.notes) in (
        made.0,
        record {
          found = λ k z there.
              found_at i h rx_own rx_seat c seats seat codes among s.app k z.id
              (x.found k z.id (ap (λ zs. slice_get zs k) taken
              ∙ (slice_get-map (λ (z : Sent). z.id) s.sent.items k
              ∙ ap (option_map (λ (z : Sent). z.id)) there)));
          knows = λ k u is.
              (let z = at i about own h.arrivals (rx_own rx_seat) seat.steps t rows s noted x below
              k u is in
              subst (λ (v : Turn × ℕ).
              KnowsMaps own (length i.plan.tx) v.0 (maps_seen x.replied v.1))
              (λ j. (z.turn_is j, z.before j))
              (knows_all i about own h.arrivals (rx_own rx_seat) seat.steps t rows s noted x below
              z.newer z.s z.older z.are));
          picks = λ k u sent is there fit.
              (let z = at i about own h.arrivals (rx_own rx_seat) seat.steps t rows s noted x below
              k u is in
              let same = sent_is i about own h.arrivals (rx_own rx_seat) seat.steps t rows s noted x
              below z.newer z.s z.older z.are sent
              (ap (λ n. slice_get s.sent.items n) z.before ∙ there) in
              subst (λ (v : Turn × (ℕ × Sent)). v.0.chosen.choice.want
              ≡ Some (pick_by (length i.plan.tx) (maps_seen x.replied v.1.0) v.1.1.rxq v.1.1.cpu
              (packet_hash (setup_in i) v.1.1.id)))
              (λ j. (z.turn_is j, (z.before j, same j)))
              (want_is i about own h.arrivals (rx_own rx_seat) seat.steps t rows s noted x below
              z.newer z.s z.older z.are
              ∙ ap (λ n. Some n)
              (pick_is i about own h.arrivals (rx_own rx_seat) seat.steps t rows s noted x below
              z.newer z.s z.older z.are
              (subst (λ n. FitTransmitWords i.plan.cpus (length i.plan.queues) (length i.plan.tx)
              (maps_seen x.replied n)) (sym z.before) fit))));
          by_table = λ k u is.
              (let z = at i about own h.arrivals (rx_own rx_seat) seat.steps t rows s noted x below
              k u is in
              subst (λ (v : Turn × ℕ). IsByTable about.start t
              (transmit_steering (flow_number_of (setup_in i))) (maps_seen x.replied) s.app v.1 v.0)
              (λ j. (z.turn_is j, z.before j))
              (reply_by_table i about own h.arrivals (rx_own rx_seat) seat.steps t rows s noted x
              below z.newer z.s z.older z.are));
          queues = subst (All (λ (z : Sent). CameBy i h c seats z.id z.rxq)) (sym x.replies)
              (each (λ (z : Sent). CameBy i h c seats z.id z.rxq) x.replied
              (λ r b y. came_by i h rx_own rx_seat c seats seat codes among r.sent.id r.sent.rxq
              arrived y.came) x.are);
          stands = subst (All (λ (z : Sent). Stands i h c seats s.app z.cpu)) (sym x.replies)
              (each (λ (z : Sent). Stands i h c seats s.app z.cpu) x.replied
              (λ r b y. stood_at i h rx_own rx_seat c seats seat codes among s.app s.home r.sent.cpu
              home y.stood) x.are);
          writes_are = subst (λ (z : List ℕ × List SockWrite).
              AreRecorded i h c seats rx_own s.app z.0 z.1) (λ j. (taken j, sym x.writes j))
              (recorded i h rx_own rx_seat c seats seat codes among s.app s.home home (taken_by s)
              notes x.notes);
          made = λ within.
              subst (λ ws. AreMadeFor i h rx_own c seats s.sent.items ws notes made.0)
              (sym x.writes) made.1;
        },
      )

pub applications_are_coupled : ApplicationsAreCoupled
applications_are_coupled i h rx_own rx_seat about own c seats seat t rows s noted x arrived below
    home codes among empty =
    coupled i h rx_own rx_seat about own c seats seat t rows s noted x arrived below home codes
    among empty

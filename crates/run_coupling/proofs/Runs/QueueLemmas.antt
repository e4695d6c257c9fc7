-- What the receive queues keep gives the premises of delivery in order, and turns of all choices.
use Rattle.std.proofs.Common.{◌%◌}
use Rattle.std.proofs.Math.ListN.{get_or-eq_default}
use Rattle.std.proofs.lemmas.Bool.{cases_lt}
use Rattle.std.proofs.lemmas.List.FromFn.{length-range_with_len}
use Rattle.steer_base.specs.declared.command.Command.TheVariants as give
use Rattle.steer_base.specs.declared.limits.TheConstants.{MAX_FLOW_COUNT, MAX_SOCKET_SIZE}
use Rattle.steer_base.specs.Apps.{app_of}
use Rattle.steer_model.specs.State.Setup.{app_for}
use Rattle.run_coupling.proofs.Names.{◌≡◌, inl, inr, ℕ, ◌+◌, ◌-◌, ◌*◌, ◌/◌, ◌^◌, ◌<◌, ◌≤◌, true}
use Rattle.run_coupling.proofs.Names.{List, [], ◌∷◌, ◌++◌, Some, length, All, sym, ap, ◌∙◌, subst}
use Rattle.run_coupling.proofs.Names.{arith, nat_lt, slice_get, slice_index, range_with_len}
use Rattle.run_coupling.proofs.Names.{ltb-true, length-map, rounded_up, has, Command, CpuMask}
use Rattle.run_coupling.proofs.Names.{Arrival, History, gate_steps, opened, own_settings, nth_step}
use Rattle.run_coupling.proofs.Names.{closer, BoardSizes, BoardStep, Lane, Given, Has, nth-inside}
use Rattle.run_coupling.proofs.Names.{BoardLists, accepted_left, received_sets, Queues, queues}
use Rattle.run_coupling.proofs.Names.{Steering, Execution, turns_of, Turn, QueuePlan, Input}
use Rattle.run_coupling.proofs.Names.{setup_in, Settings, initial_settings, AreReceiveWords}
use Rattle.run_coupling.proofs.Names.{NamesReceiveQueues, Try, settings_by, tries_up_to, AreTurnsOf}
use Rattle.run_coupling.proofs.Ends.TotalLemmas.{all-by-number}
use Rattle.run_coupling.proofs.Runs.StandLemmas as stand
use Rattle.hop_delivery.specs.Closings.TurnReads.{Knows}
use Rattle.hop_delivery.specs.Orders.Commands.{NamesCpu}
use Rattle.hop_delivery.specs.Orders.Premises.{AllFindEmpty, GoesRight, MeetsPremises}
use Rattle.hop_delivery.specs.Orders.ReceiveSettings.{flows_word, mask, mask_word, online}
use Rattle.hop_delivery.specs.Orders.ReceiveSettings.{online_word, receive_steering, socket_word}
use Rattle.hop_delivery.specs.Orders.Runs.{IsByRule}
use Rattle.hop_delivery.proofs.Orders.ReceiveSettingLemmas.{goals_are_online}
use Rattle.run_coupling.specs.Laws.Choices.{ChoicesHaveTurns}
use Rattle.run_coupling.specs.Coupling.Answers.{AllAnswered}
use Rattle.run_coupling.specs.Coupling.Boards.{IsReceiveBoard}
use Rattle.run_coupling.specs.Coupling.Deliveries.{AllDeliverTo}
use Rattle.run_coupling.specs.Coupling.Ends.{AllArrived}
use Rattle.run_coupling.specs.Coupling.EmptiedLanes.{AllFindLanes}
use Rattle.run_coupling.specs.Coupling.Inputs.{FlowsHaveOneHash, receive_queues}
use Rattle.run_coupling.specs.Coupling.Queues.{FitReceiveWords, KeepsQueues}
use Rattle.run_coupling.specs.Coupling.Tries.{KeepsReceiveTries, at_receive}
use Rattle.run_coupling.proofs.Tries.ResizeLemmas.{resizes_by}
use Rattle.run_coupling.proofs.Runs.TurnListLemmas.{ArriveOnce, turn-arrived, turn-chosen}
use Rattle.run_coupling.proofs.Runs.TurnListLemmas.{turns-counted}
use Rattle.run_coupling.proofs.Lists.PlaceLemmas.{AreNumbered, arrived_once, arrived_within}
use Rattle.run_coupling.proofs.Lists.PlaceLemmas.{at_index}
use Rattle.run_coupling.proofs.Runs.FactLemmas.{BoardFacts}
use Rattle.run_coupling.proofs.Tries.EmptiedLemmas.{tries_find_empty}
use Rattle.run_coupling.proofs.Tries.GivenLemmas.{all-back, all-follow}
use Rattle.run_coupling.proofs.Tries.HomeLemmas.{HomesOnline, homes_by}
use Rattle.run_coupling.proofs.Tries.RangeLemmas.{FitSettings, IsWithinPlan, and-both, fit_by}
use Rattle.run_coupling.proofs.Tries.RangeLemmas.{rounded-flows}
use Rattle.run_coupling.proofs.Tries.TryLemmas.{first-tries}
use Rattle.run_coupling.proofs.Tries.OpeningLemmas.{words_of_opening}

-- a command of the plan names receive queues that there are
names-queues : (i : Input) (c : Command) → IsWithinPlan i.plan c
    → NamesReceiveQueues (queues (receive_queues i)) c
names-queues i (give.Mask q mask) within =
    let b = and-both (nat_lt q (length i.plan.queues)) (nat_lt mask.0 (2 ^ i.plan.cpus)) within in
    let less = ltb-true q (length i.plan.queues) b.0 in
    let size = length-map i.plan.queues (λ (queue : QueuePlan). queue.home) in
    omega arith
names-queues i (give.Flows q count) within =
    let b = and-both (nat_lt q (length i.plan.queues)) (nat_lt count (MAX_FLOW_COUNT + 1)) within in
    let less = ltb-true q (length i.plan.queues) b.0 in
    let few = ltb-true count (MAX_FLOW_COUNT + 1) b.1 in
    let size = length-map i.plan.queues (λ (queue : QueuePlan). queue.home) in
    let small = rounded-flows count (omega arith) in
    (omega arith, omega arith)
names-queues i c within = tt

pub all_name_queues : (i : Input) (ts : List Try)
    → All (λ (t : Try). IsWithinPlan i.plan t.given.command) ts
    → All (λ (t : Try). NamesReceiveQueues (queues (receive_queues i)) t.given.command) ts
all_name_queues i =
    all-follow (λ (t : Try). IsWithinPlan i.plan t.given.command)
    (λ (t : Try). NamesReceiveQueues (queues (receive_queues i)) t.given.command)
    (λ t. names-queues i t.given.command)

-- a command of the plan names a processor below 32, if any
names-cpu : (i : Input) (c : Command) → IsWithinPlan i.plan c → NamesCpu c
names-cpu i (give.Offline cpu) within =
    let few = i.plan.within.cpus_within in
    let named = ltb-true cpu i.plan.cpus within in omega arith
names-cpu i (give.Online cpu) within =
    let few = i.plan.within.cpus_within in
    let named = ltb-true cpu i.plan.cpus within in omega arith
names-cpu i c within = tt

all_name_cpus : (i : Input) (ts : List Try)
    → All (λ (t : Try). IsWithinPlan i.plan t.given.command) ts
    → All (λ (t : Try). NamesCpu t.given.command) ts
all_name_cpus i =
    all-follow (λ (t : Try). IsWithinPlan i.plan t.given.command)
    (λ (t : Try). NamesCpu t.given.command) (λ t. names-cpu i t.given.command)

answered-back : (i : Input) (h : History) (more ts : List Try) → AllAnswered i h (more ++ ts)
    → AllAnswered i h ts
answered-back i h [] ts all = all
answered-back i h (t ∷ more) ts all = answered-back i h more ts all.1

module _ (i : Input) (h : History) (about : BoardSizes) (own : ℕ → List BoardStep)
    (lists : BoardLists) (facts : BoardFacts about own lists) (tries : List Try) (t : Execution)
    (seen : ℕ → ℕ → ℕ → ℕ) (hashes : FlowsHaveOneHash i) (board : IsReceiveBoard i h about lists)
    (kept : KeepsReceiveTries i h about own tries)
    (within : All (λ (t : Try). IsWithinPlan i.plan t.given.command) tries)
    (answered : AllAnswered i h tries)
    (finds : AllFindLanes about (receive_queues i) i.plan.cpus (length i.plan.tx) at_receive tries)
    (right : AllDeliverTo about (app_for (setup_in i)) own)
    (arrived : AllArrived i h) (keeps : KeepsQueues i h about own t seen) where
  abbrev q : Queues
  q = receive_queues i

  abbrev r : Steering
  r = receive_steering q

  -- ---- arrivals

  pub arrivals-counted : length h.arrivals ≡ length i.packets
  arrivals-counted =
      sym (length-map h.arrivals (λ (a : Arrival). a.id))
      ∙ (ap length arrived ∙ length-range_with_len 0 (length i.packets))

  pub numbered : AreNumbered 0 h.arrivals
  numbered = arrived ∙ ap (range_with_len 0) (sym arrivals-counted)

  pub arrival-once : (p q j k x : ℕ) → slice_get (t.arrivals p) j ≡ Some x
      → slice_get (t.arrivals q) k ≡ Some x → (p ≡ q) × (j ≡ k)
  arrival-once p q j k x at there =
      arrived_once h.arrivals 0 p q j k x numbered
      (ap (λ xs. slice_get xs j) (sym (keeps.arrivals p)) ∙ at)
      (ap (λ xs. slice_get xs k) (sym (keeps.arrivals q)) ∙ there)

  pub arrival-known : (p j x : ℕ) → slice_get (t.arrivals p) j ≡ Some x → x < length i.packets
  arrival-known p j x at =
      let b = arrived_within h.arrivals 0 p j x numbered
      (ap (λ xs. slice_get xs j) (sym (keeps.arrivals p)) ∙ at) in
      let high = b.1 in
      let size = arrivals-counted in omega arith

  arrive-once : ArriveOnce t
  arrive-once p q j k less small same =
      arrival-once p q j k (slice_index (t.arrivals p) j) (at_index (t.arrivals p) j less)
      (at_index (t.arrivals q) k small ∙ ap (λ n. Some n) (sym same))

  pub are-turns : AreTurnsOf own t
  are-turns =
      record {
        once = arrive-once;
        explained = keeps.turns.explained;
        by_seat = keeps.turns.by_seat;
        arrived = turn-arrived own t keeps.turns;
      }

  -- ---- queues that there are

  pub queue-count : queues q ≡ length i.plan.queues
  queue-count = length-map i.plan.queues (λ (queue : QueuePlan). queue.home)

  no-choices : (p : ℕ) → queues q ≤ p → t.choices p ≡ []
  no-choices p past =
      let a = queue-count in
      let b = keeps.choice_lists in
      let beyond : length h.choices ≤ p = omega arith in
      sym (keeps.choices p) ∙ get_or-eq_default h.choices [] beyond

  pub turn-within : (p k : ℕ) (u : Turn) → nth_step (turns_of t p) k ≡ Some u → p < queues q
  turn-within p k u at =
      elim (cases_lt p (queues q)) [
        | inl less ↦ less
        | inr past ↦
            (let inside = nth-inside (turns_of t p) k u at in
            let size = turns-counted own t keeps.turns p in
            let none = ap length (no-choices p past) in absurd (omega arith))
      ]

  -- ---- the settings of a visit

  abbrev upto : ℕ → List Try
  upto n = tries_up_to at_receive n tries

  abbrev after : ℕ → Settings
  after n = settings_by (initial_settings i.plan) (upto n)

  abbrev shown : ℕ → ℕ → ℕ
  shown n = own_settings about (opened n (gate_steps (own (closer about))))

  front-tries : (n : ℕ) → (more : List Try) × (tries ≡ more ++ upto n)
  front-tries n =
      first-tries about (received_sets q) at_receive n tries
      kept.are

  within-upto : (n : ℕ) → All (λ (t : Try). IsWithinPlan i.plan t.given.command) (upto n)
  within-upto n =
      let f = front-tries n in
      all-back (λ (t : Try). IsWithinPlan i.plan t.given.command) f.0 (upto n)
      (subst (All (λ (t : Try). IsWithinPlan i.plan t.given.command)) f.1 within)

  pub fit-upto : (n : ℕ) → FitSettings i.plan.cpus (after n)
  fit-upto n = fit_by i.plan (upto n) (within-upto n)

  homes-upto : (n : ℕ) → HomesOnline (setup_in i).homes (after n)
  homes-upto n =
      let f = front-tries n in
      homes_by i h (upto n) (within-upto n)
      (answered-back i h f.0 (upto n) (subst (AllAnswered i h) f.1 answered))

  pub words-upto : (n : ℕ) → AreReceiveWords q (after n) (λ p. resizes_by p (upto n)) (shown n)
  words-upto n =
      words_of_opening i h about own lists tries board kept (all_name_queues i tries within) n

  -- ---- what a turn has seen

  module _ (p k : ℕ) (u : Turn) (at : nth_step (turns_of t p) k ≡ Some u) where
    abbrev n : ℕ
    n = u.word / 2 ^ 32

    abbrev z : ℕ → ℕ
    z = seen p k

    less : p < queues q
    less = turn-within p k u at

    read-is : (word : ℕ) → Knows (own (t.seat p)) u word (z word) → z word ≡ shown n word
    read-is word has =
        facts.turns_know t p k word (z word) u (keeps.turns.explained (t.seat p)) at has

    seen-online : online q z ≡ (after n).online
    seen-online =
        ap (λ w. mask w)
        (read-is (online_word q) (keeps.knows p k u at).online ∙ (words-upto n).online)

    pub seen-sock : z (socket_word q) ≡ (after n).sock
    seen-sock = read-is (socket_word q) (keeps.knows_sock p k u at) ∙ (words-upto n).sock

    pub fit-seen : FitReceiveWords q i.plan.cpus p z
    fit-seen =
        let f = fit-upto n in
        let w = words-upto n in
        record {
          mask =
              subst (λ m. m < 2 ^ i.plan.cpus)
              (sym (read-is (mask_word q p) (keeps.knows p k u at).mask ∙ w.mask p less))
              (f.masks p);
          flows =
              subst (λ m. m % 2 ^ 32 ≤ MAX_FLOW_COUNT)
              (sym (read-is (flows_word q p) (keeps.knows p k u at).flows ∙ w.flows p less))
              (low (slice_index (after n).counts p) (resizes_by p (upto n)) (w.small p less)
              (f.counts p));
          rounded =
              subst (λ m. rounded_up (m % 2 ^ 32) ≡ m % 2 ^ 32)
              (sym (read-is (flows_word q p) (keeps.knows p k u at).flows ∙ w.flows p less))
              (same-low (slice_index (after n).counts p) (resizes_by p (upto n)) (w.small p less)
              (f.rounded p));
          sock = subst (λ m. m ≤ MAX_SOCKET_SIZE)
              (sym seen-sock) f.sock;
          online = subst (λ (m : CpuMask). m.0 < 2 ^ i.plan.cpus) (sym seen-online) f.online;
        }
      where
        low : (c g : ℕ) → c < 2 ^ 32 → c ≤ MAX_FLOW_COUNT → (c + 2 ^ 32 * g) % 2 ^ 32
            ≤ MAX_FLOW_COUNT
        low c g small few =
            let same : (c + 2 ^ 32 * g) % 2 ^ 32 ≡ c = omega arith in
            subst (λ m. m ≤ MAX_FLOW_COUNT) (sym same) few

        same-low : (c g : ℕ) → c < 2 ^ 32 → rounded_up c ≡ c
            → rounded_up ((c + 2 ^ 32 * g) % 2 ^ 32) ≡ (c + 2 ^ 32 * g) % 2 ^ 32
        same-low c g small round =
            let same : (c + 2 ^ 32 * g) % 2 ^ 32 ≡ c = omega arith in
            subst (λ m. rounded_up m ≡ m) (sym same) round

    home-online : has (online q z) (slice_index q.homes p) ≡ true
    home-online =
        ap (λ (m : CpuMask). has m (slice_index q.homes p)) seen-online ∙ homes-upto n p less

    pub rule-of : IsByRule about own (accepted_left lists) t r p k u
    rule-of =
        facts.rules q t (seen p) p k u less (keeps.turns.explained (t.seat p)) at
        (λ j v early there. keeps.knows p j v there)
        (facts.tables t r (seen p) p k u are-turns (keeps.turns.journal p)
        (goals_are_online q z p (r.flow u.chosen.id)
        (r.class (r.shape z p) (r.flow u.chosen.id)) u.chosen.choice.want less home-online)
        (keeps.by_table p k u at fit-seen))

  -- ---- the premises

  pub choices-have-turns : ChoicesHaveTurns i h about own lists t
  choices-have-turns =
      record {
        explained = λ p. keeps.turns.explained (t.seat p);
        journals = keeps.choices;
        none = no-choices;
        counted = turns-counted own t keeps.turns;
        chosen = turn-chosen own t keeps.turns;
        known = λ p k u at.
            arrival-known p k u.chosen.id (turn-arrived own t keeps.turns p k u at);
        by_rule = rule-of;
      }

  -- the packet of a delivery is one of the capture
  delivered-known : (q k o from id place : ℕ) → Has (own q) k (Lane (Given o from id place))
      → id < length i.packets
  delivered-known q k o from id place does =
      let s = facts.places.stand q k o from id place does in
      let f = stand.came-from about own lists facts t keeps.turns are-turns arrival-once h.choices
      keeps.choices o (place - 1) id s.stands in
      let p = stand.accepted-arrived about own lists facts t keeps.turns are-turns arrival-once
      h.choices keeps.choices f.lane f.index id f.stands_at in
      arrival-known p.0 p.1 id p.2

  goes-right : (q k : ℕ) (d : BoardStep) → Has (own q) k d → GoesRight r d
  goes-right q k (Lane (Given o from id place)) does =
      stand.delivered-to about own lists facts (app_for (setup_in i)) right q k o from id place does
      ∙ sym (ap (λ a. app_of a (setup_in i).apps)
      (hashes id (delivered-known q k o from id place does)))
  goes-right q k d does = tt

  pub meets-premises : MeetsPremises about own (accepted_left lists) t r
  meets-premises =
      record {
        once = arrive-once;
        explained = keeps.turns.explained;
        by_seat = keeps.turns.by_seat;
        arrived = turn-arrived own t keeps.turns;
        chosen = turn-chosen own t keeps.turns;
        given = λ q. all-by-number (GoesRight r) (own q) (goes-right q);
        by_rule = rule-of;
        emptied =
            subst (AllFindEmpty about r) (sym kept.own_list)
            (tries_find_empty about q i.plan.cpus (length i.plan.tx) at_receive tries
            board.lane_count (all_name_cpus i tries within) finds);
      }

-- What the applications keep gives turns of all choices for replies, by the rule.
use Rattle.std.proofs.lemmas.Option.{slice_get-get_or}
use Rattle.steer_base.specs.Orders.{IsPrefix}
use Rattle.steer_base.specs.declared.command.Command.TheVariants as give
use Rattle.history.specs.declared.sent.Sent.{Sent}
use Rattle.hop_model.specs.Hop.{nobody}
use Rattle.hop_delivery.specs.Orders.Runs.{IsByRule, settings_of_visit}
use Rattle.hop_delivery.specs.Orders.TransmitSettings.{pick_by, transmit_steering}
use Rattle.steer_model.specs.State.Setup.{flow_number_of, packet_hash}
use Rattle.run_coupling.specs.Laws.Replies.{RepliesHaveTurns}
use Rattle.run_coupling.specs.Coupling.Applications.{FitTransmitWords}
use Rattle.run_coupling.specs.Coupling.Runs.{TransmitCoupling}
use Rattle.run_coupling.specs.Coupling.Tries.{at_transmit}
use Rattle.run_coupling.proofs.Names.{◌≡◌, ℕ, zero, suc, ◌+◌, ◌*◌, ◌/◌, ◌^◌, ◌<◌, List, [], ◌∷◌}
use Rattle.run_coupling.proofs.Names.{◌++◌, Some, length, map, All, sym, refl, ap, ◌∙◌, subst}
use Rattle.run_coupling.proofs.Names.{arith, nat_lt, slice_get, slice_index, ltb-true}
use Rattle.run_coupling.proofs.Names.{All-from_get_or, Chosen, Command, list_at, History}
use Rattle.run_coupling.proofs.Names.{gate_steps, opened, own_settings, nth_step, closer}
use Rattle.run_coupling.proofs.Names.{BoardSizes, BoardStep, none-some, some-is, BoardLists}
use Rattle.run_coupling.proofs.Names.{accepted_left, sent_sets, Steering, Execution, turns_of, Turn}
use Rattle.run_coupling.proofs.Names.{Input, setup_in, Settings, initial_settings, AreTransmitWords}
use Rattle.run_coupling.proofs.Names.{NamesTransmitQueues, Try, settings_by, tries_up_to}
use Rattle.run_coupling.proofs.Names.{AreTurnsOf}
use Rattle.run_coupling.proofs.Runs.TurnListLemmas.{ArriveOnce, turn-arrived, turn-chosen}
use Rattle.run_coupling.proofs.Runs.TurnListLemmas.{turns-counted}
use Rattle.run_coupling.proofs.Lists.PlaceLemmas.{StandOnce, at_index}
use Rattle.run_coupling.proofs.Runs.FactLemmas.{BoardFacts}
use Rattle.run_coupling.proofs.Runs.PutTurnLemmas.{put-of, turn-at}
use Rattle.run_coupling.proofs.Tries.GivenLemmas.{all-back, all-follow}
use Rattle.run_coupling.proofs.Tries.MapLemmas.{pick-is}
use Rattle.run_coupling.proofs.Tries.MapOpeningLemmas.{maps_of_opening}
use Rattle.run_coupling.proofs.Tries.RangeLemmas.{FitMaps, IsWithinPlan, and-both, maps_by}
use Rattle.run_coupling.proofs.Tries.TryLemmas.{first-tries}

-- ---- commands

names-maps : (i : Input) (c : Command) → IsWithinPlan i.plan c
    → NamesTransmitQueues (length i.plan.tx) c
names-maps i (give.XCpus tx mask) within =
    ltb-true tx (length i.plan.tx)
    (and-both (nat_lt tx (length i.plan.tx)) (nat_lt mask.0 (2 ^ i.plan.cpus)) within).0
names-maps i (give.XQueues tx rxqs) within =
    ltb-true tx (length i.plan.tx)
    (and-both (nat_lt tx (length i.plan.tx)) (nat_lt rxqs (2 ^ length i.plan.queues)) within).0
names-maps i c within = tt

pub all_name_maps : (i : Input) (ts : List Try)
    → All (λ (t : Try). IsWithinPlan i.plan t.given.command) ts
    → All (λ (t : Try). NamesTransmitQueues (length i.plan.tx) t.given.command) ts
all_name_maps i =
    all-follow (λ (t : Try). IsWithinPlan i.plan t.given.command)
    (λ (t : Try). NamesTransmitQueues (length i.plan.tx) t.given.command)
    (λ t. names-maps i t.given.command)

-- ---- fronts

get-front : {A : Type 0} (xs more : List A) (k : ℕ) (x : A) → slice_get xs k ≡ Some x
    → slice_get (xs ++ more) k ≡ Some x
get-front [] more k x at = none-some x at
get-front (y ∷ xs) more zero x at = at
get-front (y ∷ xs) more (suc k) x at = get-front xs more k x at

-- a list is a front of another where each of its items stands there
pub front-from : (xs ys : List ℕ)
    → ((k x : ℕ) → slice_get xs k ≡ Some x → slice_get ys k ≡ Some x) → IsPrefix xs ys
front-from [] ys same = (ys, refl)
front-from (x ∷ xs) [] same = none-some x (same 0 x refl)
front-from (x ∷ xs) (y ∷ ys) same =
    let rest = front-from xs ys (λ k z at. same (suc k) z at) in
    let first : y ≡ x = some-is y x (same 0 x refl) in
    (rest.0, (λ i. sym first i ∷ rest.1 i))

key-at : (ss : List Sent) (k x : ℕ) → slice_get (map (λ (s : Sent). s.id) ss) k ≡ Some x
    → (s : Sent) × (slice_get ss k ≡ Some s) × (s.id ≡ x)
key-at [] k x at = none-some x at
key-at (s ∷ ss) zero x at = (s, refl, some-is s.id x at)
key-at (s ∷ ss) (suc k) x at = key-at ss k x at

module _ (i : Input) (h : History) (rx : BoardSizes) (rx_own : ℕ → List BoardStep)
    (rx_lists : BoardLists) (rx_facts : BoardFacts rx rx_own rx_lists)
    (inboxes : h.inboxes ≡ rx_lists.outs) (inboxes_stand : StandOnce rx_lists.outs)
    (about : BoardSizes) (own : ℕ → List BoardStep) (lists : BoardLists)
    (facts : BoardFacts about own lists) (tries : List Try) (t : Execution)
    (seen : ℕ → ℕ → ℕ → ℕ)
    (within : All (λ (t : Try). IsWithinPlan i.plan t.given.command) tries)
    (coupling : TransmitCoupling i h rx_own about own lists tries t seen) where
  abbrev count : ℕ
  count = length i.plan.tx

  abbrev r : Steering
  r = transmit_steering (flow_number_of (setup_in i))

  -- ---- the replies of an application are a front of its inbox

  pub reply-stands : (a k x : ℕ) → slice_get (t.arrivals a) k ≡ Some x
      → slice_get (list_at h.inboxes a) k ≡ Some x
  reply-stands a k x at =
      let s = key-at (list_at h.sent a) k x
      (ap (λ xs. slice_get xs k) (sym (coupling.applications.replies a)) ∙ at) in
      let f = coupling.applications.found a k s.0 s.1 in
      let hold = rx_facts.holds.out f.seat f.step a f.word f.found f.does in
      ap (λ ls. slice_get (list_at ls a) k) inboxes
      ∙ (ap (λ xs. slice_get xs k) hold.front.1
      ∙ get-front f.found.items hold.front.0 k x (f.there ∙ ap (λ n. Some n) s.2))

  pub replies-front : (a : ℕ)
      → IsPrefix (map (λ (s : Sent). s.id) (list_at h.sent a)) (list_at h.inboxes a)
  replies-front a =
      front-from (map (λ (s : Sent). s.id) (list_at h.sent a)) (list_at h.inboxes a)
      (λ k x at.
      reply-stands a k x (ap (λ xs. slice_get xs k) (coupling.applications.replies a) ∙ at))

  pub reply-once : (p q j k x : ℕ) → slice_get (t.arrivals p) j ≡ Some x
      → slice_get (t.arrivals q) k ≡ Some x → (p ≡ q) × (j ≡ k)
  reply-once p q j k x at there =
      inboxes_stand p q j k x
      (ap (λ ls. slice_get (list_at ls p) j) (sym inboxes) ∙ reply-stands p j x at)
      (ap (λ ls. slice_get (list_at ls q) k) (sym inboxes) ∙ reply-stands q k x there)

  arrive-once : ArriveOnce t
  arrive-once p q j k less small same =
      reply-once p q j k (slice_index (t.arrivals p) j) (at_index (t.arrivals p) j less)
      (at_index (t.arrivals q) k small ∙ ap (λ n. Some n) (sym same))

  pub are-turns : AreTurnsOf own t
  are-turns =
      record {
        once = arrive-once;
        explained = coupling.applications.turns.explained;
        by_seat = coupling.applications.turns.by_seat;
        arrived = turn-arrived own t coupling.applications.turns;
      }

  -- ---- the maps of a visit

  abbrev upto : ℕ → List Try
  upto n = tries_up_to at_transmit n tries

  abbrev after : ℕ → Settings
  after n = settings_by (initial_settings i.plan) (upto n)

  abbrev shown : ℕ → ℕ → ℕ
  shown n = own_settings about (opened n (gate_steps (own (closer about))))

  maps-upto : (n : ℕ) → AreTransmitWords count (after n) (shown n)
  maps-upto n =
      maps_of_opening i h about own lists tries coupling.board coupling.tries_are
      (all_name_maps i tries within) n

  fit-upto : (n : ℕ) → FitMaps i.plan.cpus (length i.plan.queues) (after n)
  fit-upto n =
      let f = first-tries about (λ w c. sent_sets count c) at_transmit n tries
      coupling.tries_are.are in
      maps_by i.plan (upto n)
      (all-back (λ (t : Try). IsWithinPlan i.plan t.given.command) f.0 (upto n)
      (subst (All (λ (t : Try). IsWithinPlan i.plan t.given.command)) f.1 within))

  module _ (a k : ℕ) (u : Turn) (at : nth_step (turns_of t a) k ≡ Some u) where
    abbrev n : ℕ
    n = u.word / 2 ^ 32

    read-is : (word : ℕ) → word < 2 * count → seen a k word ≡ shown n word
    read-is word less =
        facts.turns_know t a k word (seen a k word) u
        (coupling.applications.turns.explained (t.seat a)) at
        (coupling.applications.knows a k u at word less)

    seen-maps : AreTransmitWords count (after n) (seen a k)
    seen-maps =
        let w = maps-upto n in
        record {
          many = w.many;
          cpu_maps = w.cpu_maps;
          queue_maps = w.queue_maps;
          cpus = λ tx less. read-is tx (omega arith) ∙ w.cpus tx less;
          queues = λ tx less. read-is (count + tx) (omega arith) ∙ w.queues tx less;
        }

    fit-seen : FitTransmitWords i.plan.cpus (length i.plan.queues) count (seen a k)
    fit-seen =
        let f = fit-upto n in
        record {
          cpu_sets = λ tx less.
              subst (λ m. m < 2 ^ i.plan.cpus) (sym (seen-maps.cpus tx less)) (f.cpu_sets tx);
          queue_sets = λ tx less.
              subst (λ m. m < 2 ^ length i.plan.queues) (sym (seen-maps.queues tx less))
              (f.queue_sets tx);
        }

    pub rule-of : IsByRule about own (accepted_left lists) t r a k u
    rule-of =
        let b = facts.tables t r (seen a) a k u are-turns (coupling.applications.turns.journal a)
        refl
        (coupling.applications.by_table a k u at) in
        record { head = b.head; rule = b.rule; loaded = b.loaded; goal_online = refl }

    pub reply-of : (s : Sent) × (slice_get (list_at h.sent a) k ≡ Some s) × (u.chosen.id ≡ s.id)
        × (u.chosen.choice.want
        ≡ Some (pick_by count (settings_of_visit about own u.word) s.rxq s.cpu
        (packet_hash (setup_in i) s.id)))
    reply-of =
        let s = key-at (list_at h.sent a) k u.chosen.id
        (ap (λ xs. slice_get xs k) (sym (coupling.applications.replies a))
        ∙ turn-arrived own t coupling.applications.turns a k u at) in
        let hash = packet_hash (setup_in i) s.0.id in (
          s.0,
          s.1,
          sym s.2,
          coupling.applications.picks a k u s.0 at s.1 fit-seen ∙ ap (λ p. Some p)
              (pick-is count (after n) (seen a k) s.0.rxq s.0.cpu hash seen-maps
              ∙ sym (pick-is count (after n) (shown n) s.0.rxq s.0.cpu hash (maps-upto n))),
        )

    pub lane-within : u.chosen.choice.lane < about.lanes
    lane-within =
        let p = put-of own t coupling.applications.turns a k u at in
        (facts.stand (t.seat a) p.0 u.chosen.choice.lane u.chosen.id u.hash u.answer
        p.1).lane.within

  few : (a : ℕ) → All (λ (c : Chosen). c.choice.lane < 32) (t.choices a)
  few a =
      All-from_get_or (λ (c : Chosen). c.choice.lane < 32) (t.choices a) nobody
      (λ k less.
      (let u = turn-at own t coupling.applications.turns a k
      (Rattle.std.proofs.Common.get_or (t.choices a) k nobody)
      (slice_get-get_or (t.choices a) k nobody less) in
      let small = lane-within a k u.0 u.1 in
      let lanes = facts.fit.lanes in
      subst (λ (c : Chosen). c.choice.lane < 32) u.2 (omega arith)))

  pub replies-have-turns : RepliesHaveTurns i h about own lists t
  replies-have-turns =
      record {
        explained = λ a. coupling.applications.turns.explained (t.seat a);
        journals = coupling.applications.choices;
        counted = turns-counted own t coupling.applications.turns;
        chosen = turn-chosen own t coupling.applications.turns;
        few = few;
        by_rule = rule-of;
        replies = reply-of;
      }

-- Replies by the rule over a table, and from their application's processor, are those of clause 11.
use Rattle.std.proofs.Common.{ℕ, ◌≡◌, ◌<◌, ◌≤◌, true, false, List, [], Option, Some, None}
use Rattle.std.proofs.Common.{length, map, take, refl, ap, ◌∙◌, sym, arith, inl, inr, get_or, subst}
use Rattle.std.specs.Prelude.{slice_index, unwrap_or}
use Rattle.std.specs.List.{All, list_all}
use Rattle.std.specs.Option.{is_some, option_and_then, option_map}
use Rattle.std.proofs.Math.ListN.{get_or-eq_default}
use Rattle.std.proofs.Math.Seq.{take-length}
use Rattle.std.proofs.lemmas.Bool.{cases_lt, eq-eqb, eqb-true}
use Rattle.std.proofs.lemmas.List.{get_or-map, get_or_append_left, get_or_default, length-append}
use Rattle.std.proofs.lemmas.List.{length-map}
use Rattle.std.proofs.lemmas.List.Sums.{AllPass-from_list_all, list_all-from_AllPass}
use Rattle.std.proofs.lemmas.Option.{get_or_from_slice_get, slice_get-get_or, slice_get_within}
use Rattle.steer_base.specs.Choices.{migrate}
use Rattle.steer_base.specs.Counters.{number}
use Rattle.steer_base.specs.Entries.{entry, place_in}
use Rattle.steer_base.specs.Entries.{position as place_of}
use Rattle.steer_base.specs.Orders.{IsPrefix}
use Rattle.steer_base.specs.Sets.{has}
use Rattle.steer_base.specs.declared.choice.Chosen.{Chosen}
use Rattle.steer_base.specs.declared.command.Answer.TheVariants as says
use Rattle.steer_base.specs.declared.command.Command.TheVariants as give
use Rattle.steer_base.specs.declared.packet.Packet.{Packet}
use Rattle.steer_base.specs.declared.put.Put.TheVariants.{At}
use Rattle.dev_flow_table.specs.Folds.{IsPutAt}
use Rattle.dev_flow_table.specs.Tables.{cleared}
use Rattle.dev_flow_table.proofs.FoldsLemmas.{table_is_entries}
use Rattle.hop_model.specs.Hop.{chosen_at, nobody}
use Rattle.history.specs.Finding.{is_among, is_in}
use Rattle.history.specs.Known.{IsKnown}
use Rattle.history.specs.Lines.{accepted_place, tx_choice_of}
use Rattle.history.specs.Lists.{lane_at, list_at, no_arrival, no_lane}
use Rattle.history.specs.Regular.{Regular}
use Rattle.history.specs.declared.arrival.Arrival.{Arrival}
use Rattle.history.specs.declared.commanded.Commanded.{Commanded}
use Rattle.history.specs.declared.history.History.{History}
use Rattle.history.specs.declared.known.Known.{Known}
use Rattle.history.specs.declared.lane_list.LaneList.{LaneList}
use Rattle.history.specs.declared.sent.Sent.{Sent}
use Rattle.history.proofs.BoundLemmas.{in-index}
use Rattle.history.proofs.OwnLemmas.{own-first}
use Rattle.history.proofs.RegularLemmas.{arrival-at, arrived-inbox, arrived-shipped, sent-inbox}
use Rattle.history.proofs.RegularLemmas.{tx_lane-accepted}
use Rattle.history.proofs.SamePlaces.{some_same}
use Rattle.rule_check.specs.Turns.{AreByTurns, Questions}
use Rattle.rule_check.proofs.EntriesLemmas.{ByEntry, all-from, all-to}
use Rattle.steer_model.specs.Good.Choices.{accepted_in}
use Rattle.steer_model.specs.Good.Deliveries.{IsDone, IsSwept}
use Rattle.steer_model.specs.Good.GoodHistory.{never}
use Rattle.steer_model.specs.Good.Inputs.{Input, settings_at, setup_in}
use Rattle.steer_model.specs.Good.Replies.{IsReplyByRule, LeaveInOrder, RepliesAreByRule}
use Rattle.steer_model.specs.Good.Writes.{StoodAt}
use Rattle.steer_model.specs.State.Settings.{Settings}
use Rattle.steer_model.specs.State.Setup.{flow_number_of, packet_hash}
use Rattle.steer_model.specs.State.Start.{initial_settings}
use Rattle.steer_model.specs.Steps.Applications.{everyone, nothing_sent}
use Rattle.xps_map.specs.Maps.{picked}
use Rattle.good_check.specs.Positions.{position_in}
use Rattle.good_check.specs.Replies.{HasReplied, is_from, reply_pick, tx_position, tx_questions}
use Rattle.good_check.proofs.ChoicesLemmas.{put-agrees}
use Rattle.good_check.proofs.PositionsLemmas.{at-own, nowhere}
use Rattle.good_check.proofs.WantsLemmas.{settings-now, within-lists}

-- ---- the position of a reply, by what is known of it

module _ (packets : List Packet) (apps : ℕ) (h : History) (regular : Regular packets apps h)
    (known : Known) (is : IsKnown h known) where
  at-replied : (c : Chosen) → c.id < length h.arrivals
      → position_in h.start (get_or known.tx_lanes c.id None)
      (get_or known.tx_accepted c.id None) c.choice.lane
      ≡ tx_position h c
  at-replied c l =
      let places = λ (lane : ℕ). place_in c.id (lane_at h.tx_lanes lane).accepted in
      let own : Option ℕ = option_map (λ d. d.lane) (tx_choice_of h c.id) in
      let first : accepted_place h.tx_lanes c.id
      ≡ option_and_then places own =
      own-first (λ lane. place_in c.id lane.accepted) no_lane h.tx_lanes
      own refl
      (λ lane s. tx_lane-accepted packets apps h regular lane c.id s) in
      ap (λ o. position_in h.start o (get_or known.tx_accepted c.id None) c.choice.lane)
      (is.tx_lanes.slot c.id l)
      ∙ ap (λ o. position_in h.start own o c.choice.lane) (is.tx_accepted.slot c.id l ∙ first)
      ∙ at-own h.start c.choice.lane own places (λ lane n e.
      tx_lane-accepted packets apps h regular lane c.id (ap is_some e))

  beyond : (c : Chosen) → length h.arrivals ≤ c.id
      → position_in h.start (get_or known.tx_lanes c.id None)
      (get_or known.tx_accepted c.id None) c.choice.lane
      ≡ tx_position h c
  beyond c l =
      let none : place_in c.id (lane_at h.tx_lanes c.choice.lane).accepted ≡ None =
      nowhere c.id (lane_at h.tx_lanes c.choice.lane).accepted (λ s.
      let k = arrived-shipped packets apps h regular c.choice.lane c.id s in omega (arith, k, l))
      in
      let slot : get_or known.tx_lanes c.id None ≡ None =
      get_or-eq_default known.tx_lanes None (omega (arith, is.tx_lanes.width, l)) in
      ap (λ o. position_in h.start o (get_or known.tx_accepted c.id None) c.choice.lane) slot
      ∙ sym (ap (option_map (number h.start)) none)

  pub tx_position-known : (c : Chosen)
      → position_in h.start (get_or known.tx_lanes c.id None)
      (get_or known.tx_accepted c.id None) c.choice.lane
      ≡ tx_position h c
  tx_position-known c = elim (cases_lt c.id (length h.arrivals)) [
    | inl l ↦ at-replied c l
    | inr l ↦ beyond c l
  ]

-- the queue of an arrival, among those of all arrivals
pub queue-among : (arrivals : List Arrival) (queues : List ℕ) (x : ℕ)
    → queues ≡ map (λ arrival. arrival.queue) arrivals
    → get_or queues x 0 ≡ (get_or arrivals x no_arrival).queue
queue-among arrivals queues x e = ap (λ qs. get_or qs x 0) e ∙ within
  where
    queue : Arrival → ℕ
    queue arrival = arrival.queue

    within : get_or (map queue arrivals) x 0 ≡ (get_or arrivals x no_arrival).queue
    within = elim (cases_lt x (length arrivals)) [
      | inl l ↦ get_or-map queue arrivals x no_arrival 0 l
      | inr l ↦
          get_or-eq_default (map queue arrivals) 0 (omega (arith, l, length-map arrivals queue))
          ∙ ap queue (sym (get_or-eq_default arrivals no_arrival l))
    ]

-- ---- the clause

-- the items of a beginning stand in the whole list, at the same places
prefix-at : (xs ys : List ℕ) (k : ℕ) → IsPrefix xs ys → k < length xs
    → (k < length ys) × (get_or xs k 0 ≡ get_or ys k 0)
prefix-at xs ys k p l = (
  omega (arith, l, ap length p.1, length-append xs p.0),
  sym (get_or_append_left xs p.0 0 k l) ∙ ap (λ zs. get_or zs k 0) p.1,
)

module _ (i : Input) (h : History) (none : h.commands ≡ [])
    (regular : Regular i.packets (length i.plan.apps) h) (flows : ℕ)
    (above : (x : ℕ) → flow_number_of (setup_in i) x < flows) where
  abbrev plan_settings : Settings
  plan_settings = initial_settings i.plan

  abbrev asks : ℕ → Questions
  asks a = tx_questions (setup_in i) plan_settings h a

  abbrev Holds : ℕ → Type 0
  Holds a = HasReplied (setup_in i) plan_settings h flows a

  abbrev stand : ℕ → ℕ
  stand a = slice_index i.plan.apps a

  below : (a : ℕ) (c : Chosen) (k : ℕ) → (asks a).class c ≡ Some k → k < flows
  below a c k e =
      subst (λ n. n < flows) (some_same (flow_number_of (setup_in i) c.id) k e) (above c.id)

  agrees : (a : ℕ) (c : Chosen) → IsPutAt h.start (place_of (accepted_in h.tx_lanes) c)
      (option_map (λ p. At p) ((asks a).position c))
  agrees a c = put-agrees h.start (place_of (accepted_in h.tx_lanes) c)

  -- the reply of a choice: at the same place, to the same packet, which arrived
  of-choice : (a k : ℕ) → k < length (list_at h.tx_choices a)
      → (k < length (list_at h.sent a))
      × ((chosen_at (list_at h.tx_choices a) k).id ≡ (get_or (list_at h.sent a) k nothing_sent).id)
  of-choice a k l =
      let cs : List Chosen = list_at h.tx_choices a in
      let sent : List Sent = list_at h.sent a in
      let inside : k < length (map (λ c. c.id) cs) = omega (arith, l, length-map cs (λ c. c.id)) in
      let w = prefix-at (map (λ c. c.id) cs) (map (λ s. s.id) sent) k (regular.replies.chosen a)
      inside in
      let there : k < length sent = omega (arith, w.0, length-map sent (λ s. s.id)) in (
        there,
        sym (get_or-map (λ c. c.id) cs k nobody 0 l) ∙ w.1
            ∙ get_or-map (λ s. s.id) sent k nothing_sent 0 there,
      )

  arrived-reply : (a k : ℕ) → k < length (list_at h.sent a)
      → (get_or (list_at h.sent a) k nothing_sent).id < length h.arrivals
  arrived-reply a k l =
      let sent : List Sent = list_at h.sent a in
      let ids : List ℕ = map (λ s. s.id) sent in
      let inside : k < length ids = omega (arith, l, length-map sent (λ s. s.id)) in
      let id : get_or ids k 0 ≡ (get_or sent k nothing_sent).id =
      get_or-map (λ s. s.id) sent k nothing_sent 0 l in
      arrived-inbox i.packets (length i.plan.apps) h regular a (get_or sent k nothing_sent).id
      (sent-inbox i.packets (length i.plan.apps) h regular a (get_or sent k nothing_sent).id
      (subst (λ x. is_in x ids ≡ true) id (in-index ids k inside)))

  -- with the queue of its arrival and the processor of its application a reply has this pick
  pick-of : (a k : ℕ) → k < length (list_at h.sent a)
      → (get_or (list_at h.sent a) k nothing_sent).cpu ≡ stand a
      → (let r : Sent = get_or (list_at h.sent a) k nothing_sent in
      picked (settings_at i h 0).maps r.rxq r.cpu (packet_hash (setup_in i) r.id)
      ≡ reply_pick (setup_in i) plan_settings h a r.id)
  pick-of a k l cpu =
      let r : Sent = get_or (list_at h.sent a) k nothing_sent in
      let hash : Option ℕ = packet_hash (setup_in i) r.id in
      let queue : r.rxq ≡ (get_or h.arrivals r.id no_arrival).queue =
      regular.replies.queue a k nothing_sent l
      ∙ ap (λ (b : Arrival). b.queue)
      (arrival-at r.id h.arrivals regular.arrived.numbered (arrived-reply a k l)) in
      ap (λ (s : Settings). picked s.maps r.rxq r.cpu hash) (settings-now i h none)
      ∙ ap (λ q. picked plan_settings.maps q r.cpu hash) queue
      ∙ ap (λ c. picked plan_settings.maps (get_or h.arrivals r.id no_arrival).queue c hash) cpu

  -- a choice by the rule with this packet and this pick
  abbrev IsRuled : ℕ → ℕ → ℕ → ℕ → Type 0
  IsRuled a k x pick =
      let c : Chosen = chosen_at (list_at h.tx_choices a) k in
      c.choice ≡ migrate (Some (flow_number_of (setup_in i) x)) (Some pick) pick
      (entry h.start (accepted_in h.tx_lanes) (take k (list_at h.tx_choices a)))
      (λ lane. unwrap_or c.choice.head 0) (has everyone)

  rule-to : (a k : ℕ) → Holds a → k < length (list_at h.tx_choices a)
      → IsReplyByRule i h a k (settings_at i h 0)
  rule-to a k holds l =
      let r : Sent = get_or (list_at h.sent a) k nothing_sent in
      let c : Chosen = chosen_at (list_at h.tx_choices a) k in
      let at = of-choice a k l in
      let cpu : r.cpu ≡ stand a =
      eqb-true r.cpu (stand a)
      (AllPass-from_list_all (is_from (stand a)) (list_at h.sent a) holds.stood k nothing_sent
      at.0) in
      let one : IsRuled a k c.id (reply_pick (setup_in i) plan_settings h a c.id) =
      all-to table_is_entries h.start flows true (accepted_in h.tx_lanes) (asks a) (agrees a)
      (below a) (list_at h.tx_choices a) holds.turns k nobody l in
      let two : IsRuled a k r.id (reply_pick (setup_in i) plan_settings h a r.id) =
      subst (λ x. IsRuled a k x (reply_pick (setup_in i) plan_settings h a x)) at.1 one in (
        r,
        slice_get-get_or (list_at h.sent a) k nothing_sent at.0,
        at.1,
        subst (IsRuled a k r.id) (sym (pick-of a k at.0 cpu)) two,
      )

  -- where an application stood without commands
  stood-to : (a cpu : ℕ) → a < length i.plan.apps → cpu ≡ stand a → StoodAt i h a cpu
  stood-to a cpu l e =
      inl (slice_get-get_or i.plan.apps a 0 l ∙ ap (λ n. Some n) (sym e))

  stood-from : (a cpu : ℕ) → StoodAt i h a cpu → cpu ≡ stand a
  stood-from a cpu s = elim s [
    | inl e ↦ sym (get_or_from_slice_get i.plan.apps a cpu 0 e)
    | inr w ↦
        let c : Commanded = record { command = give.Stand a cpu; answer = says.Done } in
        let l : w.0 < length h.commands = slice_get_within h.commands w.0 c w.1 in
        absurd (omega (arith, l, ap length none))
  ]

  rule-from : (a k : ℕ) → k < length (list_at h.tx_choices a)
      → (get_or (list_at h.sent a) k nothing_sent).cpu ≡ stand a
      → IsReplyByRule i h a k (settings_at i h 0)
      → (let c : Chosen = chosen_at (list_at h.tx_choices a) k in
      IsRuled a k c.id (reply_pick (setup_in i) plan_settings h a c.id))
  rule-from a k l cpu w =
      let r : Sent = get_or (list_at h.sent a) k nothing_sent in
      let at = of-choice a k l in
      let same : r ≡ w.0 = get_or_from_slice_get (list_at h.sent a) k w.0 nothing_sent w.1 in
      let one : IsRuled a k r.id (picked (settings_at i h 0).maps r.rxq r.cpu
      (packet_hash (setup_in i) r.id)) =
      subst (λ (s : Sent). IsRuled a k s.id (picked (settings_at i h 0).maps s.rxq s.cpu
      (packet_hash (setup_in i) s.id))) (sym same) w.3 in
      let two : IsRuled a k r.id (reply_pick (setup_in i) plan_settings h a r.id) =
      subst (IsRuled a k r.id) (pick-of a k at.0 cpu) one in
      subst (λ x. IsRuled a k x (reply_pick (setup_in i) plan_settings h a x)) (sym at.1) two

  holds-from : (a : ℕ)
      → ((k : ℕ) → k < length (list_at h.sent a)
      → (get_or (list_at h.sent a) k nothing_sent).cpu ≡ stand a)
      → ((k : ℕ) → k < length (list_at h.tx_choices a)
      → IsReplyByRule i h a k (settings_at i h 0)) → Holds a
  holds-from a stood each = record {
    stood = list_all-from_AllPass (is_from (stand a)) (list_at h.sent a) (λ k d l.
        subst (λ (s : Sent). is_from (stand a) s ≡ true)
        (get_or_default (list_at h.sent a) k nothing_sent d l)
        (eq-eqb (get_or (list_at h.sent a) k nothing_sent).cpu (stand a) (stood k l)));
    turns = all-from table_is_entries h.start flows true (accepted_in h.tx_lanes) (asks a)
        (agrees a) (below a) (list_at h.tx_choices a) (λ k d l.
        subst (λ c. ByEntry table_is_entries h.start flows true (accepted_in h.tx_lanes) (asks a)
        (agrees a) (below a) (take k (list_at h.tx_choices a)) c)
        (get_or_default (list_at h.tx_choices a) k nobody d l)
        (rule-from a k l (stood k (of-choice a k l).0) (each k l)));
  }

  -- past the last application there are no replies, and no choices
  holds-past : (a : ℕ) → length i.plan.apps ≤ a → Holds a
  holds-past a l =
      let sent : list_at h.sent a ≡ [] =
      get_or-eq_default h.sent [] (omega (arith, regular.matched.sent, l)) in
      let cs : list_at h.tx_choices a ≡ [] =
      get_or-eq_default h.tx_choices [] (omega (arith, regular.matched.tx_choices, l)) in
      record {
        stood = ap (list_all (is_from (stand a))) sent;
        turns = subst (λ xs. AreByTurns (asks a) (cleared flows h.start true) xs) (sym cs) tt;
      }

  replied-within : (a k : ℕ) → k < length (list_at h.sent a) → a < length i.plan.apps
  replied-within a k l =
      omega (arith, within-lists h.sent a k l, regular.matched.sent)

  -- with all lanes done, what a lane accepted it delivered
  delivered-all : All IsDone h.tx_lanes → (t x : ℕ)
      → is_in x (lane_at h.tx_lanes t).accepted ≡ true
      → is_among (lane_at h.tx_lanes t).delivered x (lane_at h.tx_lanes t).accepted ≡ true
  delivered-all done t x e = elim (cases_lt t (length h.tx_lanes)) [
    | inl l ↦
        let lane : LaneList = lane_at h.tx_lanes t in
        ap (λ n. is_in x (take n lane.accepted)) (done t no_lane l).delivered
        ∙ ap (is_in x) (take-length lane.accepted) ∙ e
    | inr l ↦
        let past : lane_at h.tx_lanes t ≡ no_lane = get_or-eq_default h.tx_lanes no_lane l in
        let f : is_in x (lane_at h.tx_lanes t).accepted ≡ false =
        ap (λ (lane : LaneList). is_in x lane.accepted) past in
        absurd (cc)
  ]

  pub replies-to : ((a : ℕ) → a < length i.plan.apps → Holds a) → IsSwept h → LeaveInOrder i h
      → RepliesAreByRule i h never
  replies-to all swept leave =
      let every : (a : ℕ) → Holds a = λ a. elim (cases_lt a (length i.plan.apps)) [
        | inl l ↦ all a l
        | inr l ↦ holds-past a l
      ] in
      record {
        sent = λ a. record {
          first = regular.replies.sent a;
          queue = regular.replies.queue a;
          stood = λ k d l. stood-to a (get_or (list_at h.sent a) k d).cpu (replied-within a k l)
              (eqb-true (get_or (list_at h.sent a) k d).cpu (stand a)
              (AllPass-from_list_all (is_from (stand a)) (list_at h.sent a) (every a).stood k d l));
        };
        prefixes = λ a. record {
          within = λ k l. omega arith;
          grow = λ k l. omega arith;
        };
        each = λ a k l. rule-to a k (every a) l;
        places = record {
          lanes = regular.shipped.once;
          once = regular.shipped.port_once;
          delivered = λ x e. let w = regular.shipped.port x e in
              (w.0, delivered-all swept.tx_lanes w.0 x w.1);
          no_drops = regular.shipped.no_drops;
        };
        leave = leave;
      }

  pub replies-from : RepliesAreByRule i h never → (a : ℕ) → Holds a
  replies-from r a =
      holds-from a
      (λ k l. stood-from a (get_or (list_at h.sent a) k nothing_sent).cpu
      ((r.sent a).stood k nothing_sent l))
      (λ k l. r.each a k l)

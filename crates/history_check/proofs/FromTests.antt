-- The test of a history is sound: one that passes is regular.
use Rattle.std.proofs.Common.{ℕ, ◌<◌, ◌≤◌, ◌≡◌, true, false, List, [], ◌∷◌, ◌++◌, Option, Some, map}
use Rattle.std.proofs.Common.{length, refl, ap, ◌∙◌, sym, arith, inl, inr, get_or, subst}
use Rattle.std.specs.Prelude.{◌==◌, ◌&&◌, slice_index}
use Rattle.std.specs.List.{All}
use Rattle.std.specs.Option.{option_map, is_some, IsSome}
use Rattle.std.proofs.Math.ListN.{get_or-eq_default}
use Rattle.std.proofs.lemmas.Bool.{and_parts, cases_lt, eqb-true, leb-true, not-true}
use Rattle.std.proofs.lemmas.List.{length-map}
use Rattle.std.proofs.lemmas.List.Sums.{AllPass-from_list_all}
use Rattle.steer_base.specs.Entries.{place_in}
use Rattle.steer_base.specs.Orders.{Apart, IsPrefix}
use Rattle.steer_base.specs.declared.choice.Chosen.{Chosen}
use Rattle.steer_base.specs.declared.packet.Packet.{Packet}
use Rattle.history.specs.Finding.{is_in, first_some, Once}
use Rattle.history.specs.Lines.{accepted_place, choice_in, choice_of, drop_in, inbox_place_of}
use Rattle.history.specs.Lines.{tx_choice_of}
use Rattle.history.specs.Lists.{list_at, lane_at, no_lane, drop_ids, accepted_lists, dropped_lists}
use Rattle.history.specs.Lists.{arrival_of, arrivals_at, app_at, packet_at}
use Rattle.history.specs.Regular.{HasChoice, HaveArrived, AreSteered, AreDelivered, AreReplies}
use Rattle.history.specs.Regular.{AreShipped, Regular, has_text}
use Rattle.history_check.specs.Tests.{each, is_number, drop_number, is_polled, are_polled}
use Rattle.history_check.specs.Tests.{is_accepted, is_fallen, are_steered, is_delivered}
use Rattle.history_check.specs.Tests.{are_delivered, is_from_queue, is_of_flow, has_replies}
use Rattle.history_check.specs.Tests.{have_replies, is_queued, is_shipped, are_shipped, passes}
use Rattle.history.specs.declared.history.History.{History}
use Rattle.history.specs.declared.lane_list.LaneList.{LaneList}
use Rattle.history.specs.declared.sent.Sent.{Sent}
use Rattle.history.proofs.BoundLemmas.{list-accepted, list-dropped}
use Rattle.history_check.proofs.FromShape.{IsShaped, shape_from}
use Rattle.history_check.proofs.TestLemmas.{each-at, each-map, below-range, begins-prefix}
use Rattle.history_check.proofs.TestLemmas.{mapped-is, number-is, some-place, index-in, index-of}
use Rattle.history_check.proofs.TestLemmas.{first-at, some-at, once-named, Named, apart-named}
use Rattle.history_check.proofs.TestLemmas.{apart-joined}

-- The choices of a queue.
module _ (packets : List Packet) (apps : ℕ) (h : History) (shape : IsShaped packets apps h)
    (polled : are_polled h ≡ true) where
  polled-at : (q : ℕ) → q < length h.taken → is_polled h q ≡ true
  polled-at q l = below-range (is_polled h) (length h.taken) q polled l

  no-choices : (q : ℕ) → length h.taken ≤ q → list_at h.choices q ≡ []
  no-choices q l = let c : length h.choices ≡ length h.taken = shape.choices in
      let m : length h.choices ≤ q = omega arith in get_or-eq_default h.choices [] m

  -- No more are taken than arrived, and the choices are of the first arrivals.
  pub arrived_from : HaveArrived packets h
  arrived_from = record {
    numbered = shape.numbered;
    of_the_capture = shape.of_the_capture;
    taken = λ q. elim (cases_lt q (length h.taken)) [
      | inl l ↦ leb-true (slice_index h.taken q) (length (arrivals_at h.arrivals q))
          (and_parts _ _ (and_parts _ _ (polled-at q l)).0).0
      | inr l ↦ let z : slice_index h.taken q ≡ 0 = get_or-eq_default h.taken 0 l in omega arith
    ];
    chosen = λ q. elim (cases_lt q (length h.taken)) [
      | inl l ↦ begins-prefix (map (λ c. c.id) (list_at h.choices q)) (arrivals_at h.arrivals q)
          (and_parts _ _ (polled-at q l)).1
      | inr l ↦ subst (λ cs. IsPrefix (map (λ c. c.id) cs) (arrivals_at h.arrivals q))
          (sym (no-choices q l)) (arrivals_at h.arrivals q, refl)
    ];
    chosen_taken = λ q. elim (cases_lt q (length h.taken)) [
      | inl l ↦ leb-true (length (list_at h.choices q)) (slice_index h.taken q)
          (and_parts _ _ (and_parts _ _ (polled-at q l)).0).1
      | inr l ↦ let z : length (list_at h.choices q) ≡ 0 = ap length (no-choices q l) in omega arith
    ];
  }

-- the choice of a lane is in one of the lists
has-choice : (choices : List (List Chosen)) (x c : ℕ) → is_number (option_map (λ d. d.lane)
    (first_some (choice_in x) choices)) c ≡ true → HasChoice choices x c
has-choice choices x c e =
    let m = mapped-is (λ d. d.lane) (first_some (choice_in x) choices) c e in
    let f = first-at (choice_in x) choices [] m.0 m.1 in
    (f.0, m.0, f.2, m.2)

-- a list whose length is 0 has nothing
none-of : {A : Type 0} (xs : List A) → (length xs == 0) ≡ true → xs ≡ []
none-of [] e = refl
none-of (x ∷ xs) e = let f : length (x ∷ xs) ≡ 0 = eqb-true (length (x ∷ xs)) 0 e in
    absurd (omega arith)

-- What the processors accepted and dropped.
module _ (h : History) (steered : are_steered h ≡ true) where
  steered-at : (c : ℕ) → c < length h.lanes
      → (each (is_accepted h c) (lane_at h.lanes c).accepted && each (λ i d. is_fallen h c i d.id)
      (lane_at h.lanes c).drops) ≡ true
  steered-at c l = each-at (λ c lane. each (is_accepted h c) lane.accepted && each
      (λ i d. is_fallen h c i d.id) lane.drops) h.lanes c no_lane steered l

  accepted-at : (c i : ℕ) → c < length h.lanes → i < length (lane_at h.lanes c).accepted
      → is_accepted h c i (get_or (lane_at h.lanes c).accepted i 0) ≡ true
  accepted-at c i l k =
      each-at (is_accepted h c) (lane_at h.lanes c).accepted i 0
      (and_parts _ _ (steered-at c l)).0 k

  fallen-at : (c i : ℕ) → c < length h.lanes → i < length (drop_ids (lane_at h.lanes c))
      → is_fallen h c i (get_or (drop_ids (lane_at h.lanes c)) i 0) ≡ true
  fallen-at c i l k =
      each-at (is_fallen h c) (drop_ids (lane_at h.lanes c)) i 0
      (sym (each-map (is_fallen h c) (λ d. d.id) (lane_at h.lanes c).drops)
      ∙ (and_parts _ _ (steered-at c l)).1) k

  abbrev lane_of : ℕ → Option ℕ
  lane_of x = option_map (λ d. d.lane) (choice_of h x)

  abbrev fall_of : ℕ → Option ℕ
  fall_of x = option_map drop_number (first_some (drop_in x) h.lanes)

  -- what a lane has names the lane and its index
  accepted-named : (c : ℕ) → c < length h.lanes → Named lane_of (accepted_place h.lanes) c
      (lane_at h.lanes c).accepted
  accepted-named c l i k =
      let w = and_parts _ _ (and_parts _ _ (accepted-at c i l k)).0 in
      ((and_parts _ _ w.0).1, w.1)

  fallen-named : (c : ℕ) → c < length h.lanes → Named lane_of fall_of c
      (drop_ids (lane_at h.lanes c))
  fallen-named c l i k =
      let w = and_parts _ _ (fallen-at c i l k) in
      ((and_parts _ _ w.0).1, w.1)

  -- no packet was both accepted and dropped
  not-both : (p q i j : ℕ) → p < length h.lanes → q < length h.lanes → i < length
      (lane_at h.lanes p).accepted → j < length (drop_ids (lane_at h.lanes q))
      → get_or (lane_at h.lanes p).accepted i 0 ≡ get_or (drop_ids (lane_at h.lanes q)) j 0 → ⊥
  not-both p q i j a b k l e =
      let x = get_or (lane_at h.lanes p).accepted i 0 in
      let y = get_or (drop_ids (lane_at h.lanes q)) j 0 in
      let no : is_some (first_some (drop_in x) h.lanes) ≡ false =
      not-true (is_some (first_some (drop_in x) h.lanes))
      (and_parts _ _ (accepted-at p i a k)).1 in
      let yes : is_some (first_some (drop_in y) h.lanes) ≡ true =
      some-place drop_number (first_some (drop_in y) h.lanes) j (fallen-named q b j l).1 in
      let same : is_some (first_some (drop_in x) h.lanes) ≡ is_some
      (first_some (drop_in y) h.lanes) = ap (λ z. is_some (first_some (drop_in z) h.lanes)) e in
      cc

  lanes-apart : Apart (accepted_lists h.lanes ++ dropped_lists h.lanes)
  lanes-apart =
      let a = length-map h.lanes (λ lane. lane.accepted) in
      let d = length-map h.lanes drop_ids in
      apart-joined (accepted_lists h.lanes) (dropped_lists h.lanes)
      (apart-named (λ lane. lane.accepted) h.lanes no_lane lane_of
      (accepted_place h.lanes) accepted-named)
      (apart-named drop_ids h.lanes no_lane lane_of fall_of fallen-named)
      (λ p q i j b c k l e.
      let left = list-accepted h.lanes p in
      let right = list-dropped h.lanes q in
      not-both p q i j (omega arith) (omega arith) (rw left at k) (rw right at l)
      (rw (left, right) at e))

  pub steered_from : AreSteered h
  steered_from = record {
    accepted = λ c x e.
        let w = index-of (λ lane. lane.accepted) h.lanes no_lane c x refl e in
        has-choice h.choices x c (subst (λ y. is_number (lane_of y) c ≡ true) w.1.2
        (accepted-named c w.0 w.1.0 w.1.1).0);
    dropped = λ c x e.
        let w = index-of drop_ids h.lanes no_lane c x refl e in
        has-choice h.choices x c (subst (λ y. is_number (lane_of y) c ≡ true) w.1.2
        (fallen-named c w.0 w.1.0 w.1.1).0);
    once = lanes-apart;
  }

-- where a lane has a place for a packet, some lane accepted it
lane-of-place : (lanes : List LaneList) (x : ℕ) → is_some (accepted_place lanes x) ≡ true → (c : ℕ)
    × (is_in x (lane_at lanes c).accepted ≡ true)
lane-of-place lanes x e = let w = some-at (λ lane. place_in x lane.accepted) lanes no_lane e in
    (w.0, w.2)

-- The inboxes.
module _ (packets : List Packet) (apps : ℕ) (h : History)
    (delivered : are_delivered packets apps h ≡ true) where
  delivered-at : (a i : ℕ) → a < length h.inboxes → i < length (list_at h.inboxes a)
      → is_delivered packets apps h a i (get_or (list_at h.inboxes a) i 0) ≡ true
  delivered-at a i l k =
      each-at (is_delivered packets apps h a) (list_at h.inboxes a) i 0
      (each-at (λ a inbox. each (is_delivered packets apps h a) inbox) h.inboxes a [] delivered
      l) k

  -- what is in an inbox is of its application, and some processor accepted it
  delivered-in : (a x : ℕ) → is_in x (list_at h.inboxes a) ≡ true → (app_at packets apps x ≡ a)
      × (is_some (accepted_place h.lanes x) ≡ true)
  delivered-in a x e =
      let w = index-of (λ list. list) h.inboxes [] a x refl e in
      let at : is_delivered packets apps h a w.1.0 x ≡ true =
      subst (λ y. is_delivered packets apps h a w.1.0 y ≡ true) w.1.2
      (delivered-at a w.1.0 w.0 w.1.1) in
      let parts = and_parts _ _ at in
      (eqb-true (app_at packets apps x) a (and_parts _ _ parts.0).1, parts.1)

  pub delivered_from : AreDelivered packets apps h
  delivered_from = record {
    accepted = λ a x e. lane-of-place h.lanes x (delivered-in a x e).1;
    own = λ a x e. (delivered-in a x e).0;
    once = λ a. elim (cases_lt a (length h.inboxes)) [
      | inl l ↦ once-named (list_at h.inboxes a) (inbox_place_of h)
          (λ i k. (and_parts _ _ (and_parts _ _ (and_parts _ _ (delivered-at a i l k)).0).0).1)
      | inr l ↦ subst Once (sym (get_or-eq_default h.inboxes [] l))
          (λ i j b k e. absurd (omega arith))
    ];
  }

-- The replies.
module _ (packets : List Packet) (apps : ℕ) (h : History) (shape : IsShaped packets apps h)
    (replies : have_replies packets apps h ≡ true) where
  replies-at : (a : ℕ) → a < apps → has_replies packets h a ≡ true
  replies-at a l = below-range (has_replies packets h) apps a replies l

  no-sent : (a : ℕ) → apps ≤ a → list_at h.sent a ≡ []
  no-sent a l = let c : length h.sent ≡ apps = shape.sent in let m : length h.sent ≤ a =
      omega arith in get_or-eq_default h.sent [] m

  no-tx_choices : (a : ℕ) → apps ≤ a → list_at h.tx_choices a ≡ []
  no-tx_choices a l = let c : length h.tx_choices ≡ apps = shape.tx_choices in
      let m : length h.tx_choices ≤ a = omega arith in get_or-eq_default h.tx_choices [] m

  is-from_queue : (s : Sent) → is_from_queue h s ≡ true → s.rxq ≡ (arrival_of h.arrivals s.id).queue
  is-from_queue s e = sym (eqb-true (arrival_of h.arrivals s.id).queue s.rxq (and_parts _ _ e).1)

  is-of_flow : (c : Chosen) → is_of_flow packets h c ≡ true
      → (c.choice.class ≡ Some (packet_at packets c.id).flow_number) × IsSome c.choice.want
  is-of_flow c e =
      let w = and_parts _ _ e in
      (number-is c.choice.class (packet_at packets c.id).flow_number (and_parts _ _ w.0).1, w.1)

  tx_choice-at : (a : ℕ) → a < apps → All (λ c. is_of_flow packets h c ≡ true)
      (list_at h.tx_choices a)
  tx_choice-at a l = AllPass-from_list_all (is_of_flow packets h) (list_at h.tx_choices a)
      (and_parts _ _ (replies-at a l)).1

  pub replies_from : AreReplies packets h
  replies_from = record {
    sent = λ a. elim (cases_lt a apps) [
      | inl l ↦ begins-prefix (map (λ s. s.id) (list_at h.sent a)) (list_at h.inboxes a)
          (and_parts _ _ (and_parts _ _ (and_parts _ _ (replies-at a l)).0).0).0
      | inr l ↦ subst (λ list. IsPrefix (map (λ s. s.id) list) (list_at h.inboxes a))
          (sym (no-sent a l)) (list_at h.inboxes a, refl)
    ];
    queue = λ a. elim (cases_lt a apps) [
      | inl l ↦ λ k d b.
          is-from_queue (get_or (list_at h.sent a) k d)
          (AllPass-from_list_all (is_from_queue h) (list_at h.sent a)
          (and_parts _ _ (and_parts _ _ (and_parts _ _ (replies-at a l)).0).0).1 k d b)
      | inr l ↦ subst (All (λ s. s.rxq ≡ (arrival_of h.arrivals s.id).queue)) (sym (no-sent a l))
          (λ k d b. absurd (omega arith))
    ];
    chosen = λ a. elim (cases_lt a apps) [
      | inl l ↦ begins-prefix (map (λ c. c.id) (list_at h.tx_choices a))
          (map (λ s. s.id) (list_at h.sent a)) (and_parts _ _ (and_parts _ _ (replies-at a l)).0).1
      | inr l ↦ subst (λ list. IsPrefix (map (λ c. c.id) list) (map (λ s. s.id) (list_at h.sent a)))
          (sym (no-tx_choices a l)) (map (λ s. s.id) (list_at h.sent a), refl)
    ];
    class = λ a. elim (cases_lt a apps) [
      | inl l ↦ λ k d b. (is-of_flow (get_or (list_at h.tx_choices a) k d)
          (tx_choice-at a l k d b)).0
      | inr l ↦ subst (All (λ c. c.choice.class ≡ Some (packet_at packets c.id).flow_number))
          (sym (no-tx_choices a l)) (λ k d b. absurd (omega arith))
    ];
    want = λ a. elim (cases_lt a apps) [
      | inl l ↦ λ k d b. (is-of_flow (get_or (list_at h.tx_choices a) k d)
          (tx_choice-at a l k d b)).1
      | inr l ↦ subst (All (λ c. IsSome c.choice.want)) (sym (no-tx_choices a l))
          (λ k d b. absurd (omega arith))
    ];
  }

-- What the transmit queues accepted, and the port.
module _ (h : History) (shipped : are_shipped h ≡ true) where
  queue-at : (t : ℕ) → t < length h.tx_lanes → ((length (lane_at h.tx_lanes t).drops == 0) && each
      (is_queued h t) (lane_at h.tx_lanes t).accepted) ≡ true
  queue-at t l = each-at (λ t lane. (length lane.drops == 0) && each (is_queued h t) lane.accepted)
      h.tx_lanes t no_lane (and_parts _ _ shipped).0 l

  port-at : (i : ℕ) → i < length h.port → is_shipped h i (get_or h.port i 0) ≡ true
  port-at i l = each-at (is_shipped h) h.port i 0 (and_parts _ _ shipped).1 l

  abbrev queue_of : ℕ → Option ℕ
  queue_of x = option_map (λ d. d.lane) (tx_choice_of h x)

  queue-named : (t : ℕ) → t < length h.tx_lanes → Named queue_of (accepted_place h.tx_lanes) t
      (lane_at h.tx_lanes t).accepted
  queue-named t l i k =
      let w = and_parts _ _ (each-at (is_queued h t) (lane_at h.tx_lanes t).accepted i 0
      (and_parts _ _ (queue-at t l)).1 k) in
      ((and_parts _ _ w.0).1, w.1)

  pub shipped_from : AreShipped h
  shipped_from = record {
    accepted = λ t x e.
        let w = index-of (λ lane. lane.accepted) h.tx_lanes no_lane t x refl e in
        has-choice h.tx_choices x t (subst (λ y. is_number (queue_of y) t ≡ true) w.1.2
        (queue-named t w.0 w.1.0 w.1.1).0);
    once = apart-named (λ lane. lane.accepted) h.tx_lanes no_lane queue_of
        (accepted_place h.tx_lanes) queue-named;
    no_drops = λ t. elim (cases_lt t (length h.tx_lanes)) [
      | inl l ↦ none-of (lane_at h.tx_lanes t).drops (and_parts _ _ (queue-at t l)).0
      | inr l ↦ ap (λ lane. lane.drops) (get_or-eq_default h.tx_lanes no_lane l)
    ];
    port = λ x e.
        let w = index-in x h.port e in
        lane-of-place h.tx_lanes x (and_parts _ _ (subst (λ y. is_shipped h w.0 y ≡ true) w.2
        (port-at w.0 w.1))).1;
    port_once = once-named h.port (λ x. place_in x h.port)
        (λ i k. (and_parts _ _ (and_parts _ _ (port-at i k)).0).1);
  }

-- A history that passes is regular.
pub from_tests : (packets : List Packet) (apps : ℕ) (h : History) → passes packets apps h ≡ true
    → Regular packets apps h
from_tests packets apps h e =
    let texts = and_parts _ _ e in
    let shipped = and_parts _ _ texts.0 in
    let replies = and_parts _ _ shipped.0 in
    let delivered = and_parts _ _ replies.0 in
    let steered = and_parts _ _ delivered.0 in
    let polled = and_parts _ _ steered.0 in
    let shape = shape_from packets apps h (and_parts _ _ polled.0).0 in
    record {
      matched = record {
        choices = shape.choices;
        inboxes = shape.inboxes;
        sent = shape.sent;
        tx_choices = shape.tx_choices;
        writes = shape.writes;
      };
      arrived = arrived_from packets apps h shape polled.1;
      steered = steered_from h steered.1;
      delivered = delivered_from packets apps h delivered.1;
      replies = replies_from packets apps h shape replies.1;
      shipped = shipped_from h shipped.1;
      answers = AllPass-from_list_all (λ c. has_text c.answer) h.commands texts.1;
    }

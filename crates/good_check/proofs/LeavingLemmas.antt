-- The replies of each flow in order, as classes.
use Rattle.std.proofs.Common.{ℕ, ◌≡◌, ◌<◌, ◌≤◌, Bool, true, false, List, [], Option, Some, None}
use Rattle.std.proofs.Common.{◌∷◌, suc, length, map, refl, ap, ◌∙◌, sym, arith, inl, inr, get_or}
use Rattle.std.proofs.Common.{subst}
use Rattle.std.specs.Prelude.{◌&&◌, ◌||◌, ◌==◌, filter, not}
use Rattle.std.specs.List.{All, list_any}
use Rattle.std.specs.Option.{is_some}
use Rattle.std.proofs.Math.ListN.{get_or-eq_default}
use Rattle.std.proofs.lemmas.Bool.{and_parts, and_right, cases_eq, cases_lt, eqb-true, ne_eqb}
use Rattle.std.proofs.lemmas.List.{get_or-map, length-map}
use Rattle.steer_base.specs.Apps.{app_of}
use Rattle.steer_base.specs.Entries.{is_class}
use Rattle.steer_base.specs.Orders.{InOrder, IsPrefix, was_dropped}
use Rattle.steer_base.specs.declared.put.LaneDrop.{LaneDrop}
use Rattle.history.specs.Finding.{is_in, Once}
use Rattle.history.specs.Lists.{lane_at, list_at, no_arrival}
use Rattle.history.specs.Regular.{Regular}
use Rattle.history.specs.declared.arrival.Arrival.{Arrival}
use Rattle.history.specs.declared.history.History.{History}
use Rattle.history.specs.declared.lane_list.LaneList.{LaneList}
use Rattle.history.specs.declared.sent.Sent.{Sent}
use Rattle.history.proofs.RegularLemmas.{arrived-inbox, sent-inbox, tx_choice-sent}
use Rattle.history.proofs.SamePlaces.{Once-front}
use Rattle.rule_check.specs.Chains.{in_class, is_in_class}
use Rattle.steer_model.specs.Good.Inputs.{Input, setup_in}
use Rattle.steer_model.specs.Good.Replies.{of_reply, replies_of}
use Rattle.steer_model.specs.State.Ranges.{AreOfFlows}
use Rattle.steer_model.specs.State.Setup.{app_for, flow_number_of}
use Rattle.good_check.specs.Order.{LeftInOrder, all_replies, reply_classes}
use Rattle.good_check.proofs.OrderLemmas.{all-in, eqb-turned, filter-agree, filter-concat}
use Rattle.good_check.proofs.OrderLemmas.{filter-none, filter-some, in-concat, once-concat}
use Rattle.good_check.proofs.OrderLemmas.{prefix-none, prefix-same}
use Rattle.good_check.proofs.SweptLemmas.{id-at}

-- lanes without drops dropped no packet
none-dropped : (y : ℕ) (lanes : List LaneList) → ((t : ℕ) → (lane_at lanes t).drops ≡ [])
    → was_dropped (map (λ lane. lane.drops) lanes) y ≡ false
none-dropped y [] h = refl
none-dropped y (lane ∷ lanes) h =
    ap (λ ds. list_any (λ d. d.id == y) ds
    || was_dropped (map (λ lane. lane.drops) lanes) y) (h 0)
    ∙ none-dropped y lanes (λ t. h (suc t))

-- the packets of an application's replies
pub replies-at : (sent : List (List Sent)) (a : ℕ)
    → list_at (map (λ list. map (λ s. s.id) list) sent) a ≡ map (λ s. s.id) (list_at sent a)
replies-at sent a =
    let ids = λ (list : List Sent). map (λ s. s.id) list in
    elim (cases_lt a (length sent)) [
      | inl l ↦ get_or-map ids sent a [] [] l
      | inr l ↦
          let k : length (map ids sent) ≤ a = omega (arith, l, length-map sent ids) in
          get_or-eq_default (map ids sent) [] k ∙ sym (ap ids (get_or-eq_default sent [] l))
    ]

module _ (i : Input) (h : History) (flows : AreOfFlows i.packets)
    (regular : Regular i.packets (length i.plan.apps) h) where
  abbrev count : ℕ
  count = length i.packets

  abbrev apps : ℕ
  apps = length i.plan.apps

  abbrev flow : ℕ → ℕ
  flow x = flow_number_of (setup_in i) x

  abbrev app : ℕ → ℕ
  app x = app_for (setup_in i) x

  abbrev drops : List (List LaneDrop)
  drops = map (λ lane. lane.drops) h.tx_lanes

  abbrev classes : List (Option ℕ)
  classes = reply_classes (setup_in i) h.arrivals

  abbrev came : List ℕ
  came = all_replies h.sent

  of-capture : (y : ℕ) → y < length h.arrivals → y < count
  of-capture y l = omega (arith, l, regular.arrived.of_the_capture)

  slot-is : (y : ℕ) → y < length h.arrivals → get_or classes y None ≡ Some (flow y)
  slot-is y l =
      get_or-map (λ (a : Arrival). Some (flow a.id)) h.arrivals y no_arrival None l
      ∙ ap (λ z. Some (flow z)) (id-at h.arrivals y regular.arrived.numbered l)

  test-is : (x y : ℕ) → y < length h.arrivals
      → is_in_class classes (flow x) y ≡ (flow y == flow x)
  test-is x y l = ap (is_class (flow x)) (slot-is y l) ∙ eqb-turned (flow x) (flow y)

  -- a reply is one of its own application
  own-reply : (a y : ℕ) → is_in y (replies_of h a) ≡ true → app y ≡ a
  own-reply a y j =
      regular.delivered.own a y (sent-inbox i.packets apps h regular a y j)

  reply-arrived : (a y : ℕ) → is_in y (replies_of h a) ≡ true → y < length h.arrivals
  reply-arrived a y j =
      arrived-inbox i.packets apps h regular a y (sent-inbox i.packets apps h regular a y j)

  port-reply : (y : ℕ) → is_in y h.port ≡ true → is_in y (replies_of h (app y)) ≡ true
  port-reply y j =
      let w = regular.shipped.port y j in
      let v = regular.shipped.accepted w.0 y w.1 in
      let r : is_in y (replies_of h v.0) ≡ true =
      tx_choice-sent i.packets apps h regular v.0 y (ap is_some v.2) in
      subst (λ a. is_in y (replies_of h a) ≡ true) (sym (own-reply v.0 y r)) r

  -- the packets of a flow have one application
  same-app : (x y : ℕ) → x < count → y < count → flow y ≡ flow x → app y ≡ app x
  same-app x y l m f = ap (λ hash. app_of hash apps) (flows.one_hash y x m l f)

  and-true : (b : Bool) → (b && true) ≡ b
  and-true true = refl
  and-true false = refl

  came-is : (a x : ℕ) → x < count → app x ≡ a
      → in_class classes (flow x) came
      ≡ filter (λ y. of_reply i h a x y && not (was_dropped drops y)) (replies_of h a)
  came-is a x l e =
      filter-concat (is_in_class classes (flow x)) (map (λ list. map (λ s. s.id) list) h.sent) a
      (λ b y j t.
      let r : is_in y (replies_of h b) ≡ true = sym (ap (is_in y) (replies-at h.sent b)) ∙ j in
      let m : y < length h.arrivals = reply-arrived b y r in
      let f : flow y ≡ flow x = eqb-true (flow y) (flow x) (sym (test-is x y m) ∙ t) in
      sym (own-reply b y r) ∙ same-app x y l (of-capture y m) f ∙ e)
      ∙ ap (filter (is_in_class classes (flow x))) (replies-at h.sent a)
      ∙ filter-agree (is_in_class classes (flow x))
      (λ y. of_reply i h a x y && not (was_dropped drops y)) (replies_of h a) (λ y j.
      test-is x y (reply-arrived a y j) ∙ sym (and-true (flow y == flow x))
      ∙ sym (ap (λ b. (b && flow y == flow x) && true) j)
      ∙ sym (ap (λ b. of_reply i h a x y && not b)
      (none-dropped y h.tx_lanes regular.shipped.no_drops)))

  port-is : (a x : ℕ) → x < count → app x ≡ a
      → in_class classes (flow x) h.port ≡ filter (of_reply i h a x) h.port
  port-is a x l e =
      filter-agree (is_in_class classes (flow x)) (of_reply i h a x) h.port (λ y j.
      let r : is_in y (replies_of h (app y)) ≡ true = port-reply y j in
      let m : y < length h.arrivals = reply-arrived (app y) y r in
      elim (cases_eq (flow y) (flow x)) [
        | inl f ↦
            let own : is_in y (replies_of h a) ≡ true =
            subst (λ b. is_in y (replies_of h b) ≡ true)
            (same-app x y l (of-capture y m) f ∙ e) r in
            test-is x y m ∙ sym (ap (λ b. b && flow y == flow x) own)
        | inr ne ↦
            let none : (flow y == flow x) ≡ false = ne_eqb (flow y) (flow x) ne in
            test-is x y m ∙ none
            ∙ sym (and_right (is_in y (replies_of h a)) (flow y == flow x) none)
      ])

  abbrev RepliesInOrder : Type 0
  RepliesInOrder =
      (a x : ℕ) → x < count → InOrder (of_reply i h a x) (replies_of h a) drops h.port

  pub replies-to : LeftInOrder classes came h.port → RepliesInOrder
  replies-to o a x l = elim (cases_eq (app x) a) [
    | inl e ↦
        prefix-same (in_class classes (flow x) h.port) (in_class classes (flow x) came)
        (filter (of_reply i h a x) h.port)
        (filter (λ y. of_reply i h a x y && not (was_dropped drops y)) (replies_of h a))
        (port-is a x l e) (came-is a x l e) (o (flow x))
    | inr ne ↦
        prefix-none (filter (of_reply i h a x) h.port)
        (filter (λ y. of_reply i h a x y && not (was_dropped drops y)) (replies_of h a))
        (filter-none (of_reply i h a x) h.port (λ y j t.
        let both = and_parts (is_in y (replies_of h a)) (flow y == flow x) t in
        let m : y < length h.arrivals = reply-arrived a y both.0 in
        ne (sym (same-app x y l (of-capture y m) (eqb-true (flow y) (flow x) both.1))
        ∙ own-reply a y both.0)))
  ]

  pub replies-from : RepliesInOrder → LeftInOrder classes came h.port
  replies-from o k = elim (filter-some (is_in_class classes k) h.port) [
    | inl n ↦ prefix-none (in_class classes k h.port) (in_class classes k came) n
    | inr w ↦
        let y = w.0 in
        let m : y < length h.arrivals = reply-arrived (app y) y (port-reply y w.1) in
        let l : y < count = of-capture y m in
        let e : flow y ≡ k =
        sym (eqb-true k (flow y) (sym (ap (is_class k) (slot-is y m)) ∙ w.2)) in
        subst (λ n. IsPrefix (in_class classes n h.port) (in_class classes n came)) e
        (prefix-same (filter (of_reply i h (app y) y) h.port)
        (filter (λ z. of_reply i h (app y) y z && not (was_dropped drops z))
        (replies_of h (app y)))
        (in_class classes (flow y) h.port) (in_class classes (flow y) came)
        (sym (port-is (app y) y l refl)) (sym (came-is (app y) y l refl)) (o (app y) y l))
  ]

  -- what the chains of the classes need
  pub replies-arrived : (y : ℕ) → is_in y came ≡ true → y < length h.arrivals
  replies-arrived y j =
      let w = in-concat y (map (λ list. map (λ s. s.id) list) h.sent) j in
      reply-arrived w.0 y (sym (ap (is_in y) (replies-at h.sent w.0)) ∙ w.1)

  pub port-replied : (y : ℕ) → is_in y h.port ≡ true → y < length h.arrivals
  port-replied y j = reply-arrived (app y) y (port-reply y j)

  pub replies-once : Once came
  replies-once =
      once-concat app 0 (map (λ list. map (λ s. s.id) list) h.sent)
      (λ b. subst Once (sym (replies-at h.sent b))
      (Once-front (replies_of h b) (list_at h.inboxes b) (regular.replies.sent b)
      (regular.delivered.once b)))
      (λ b y j. let e : app y ≡ b =
      own-reply b y (sym (ap (is_in y) (replies-at h.sent b)) ∙ j) in omega (arith, e))

  pub within-flows : (xs : List ℕ) → ((y : ℕ) → is_in y xs ≡ true → y < length h.arrivals)
      → All (λ x. x < length classes) xs
  within-flows xs arrived = all-in (λ x. x < length classes) xs (λ y j.
      omega (arith, arrived y j, length-map h.arrivals (λ a. Some (flow a.id))))

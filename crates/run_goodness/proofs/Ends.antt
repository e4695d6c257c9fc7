-- The end of a run: what arrived, what an out lane has, what was replied to and what is on the port
-- are in one order; a delivery is in order of a history; an application that replied to a front of
-- its inbox and as often as packets were delivered to it replied to the whole; one count makes the
-- totals equal.
use Rattle.std.specs.Prelude.{if◌then◌else◌}
use Rattle.std.specs.List.{filter}
use Rattle.std.proofs.lemmas.Bool.{cases_eq}
use Rattle.std.proofs.lemmas.List.Elements.{filter-append, filter_agree}
use Rattle.steer_base.specs.Orders.{IsPrefix, was_dropped}
use Rattle.history.proofs.FindingLemmas.{is_in-here, is_in-past}
use Rattle.run_goodness.proofs.Names.{◌≡◌, inl, inr, ℕ, suc, ◌&&◌, Bool, true, false, not, List, []}
use Rattle.run_goodness.proofs.Names.{◌∷◌, ◌++◌, get_or, sym, refl, ap, ◌∙◌, append_assoc, InOrder}
use Rattle.run_goodness.proofs.Names.{LaneDrop, is_in, ◌==◌, map, subst, list_any, arrivals_at}
use Rattle.run_goodness.proofs.Names.{list_at, LaneList, BoardSizes, BoardStep, BoardLists}
use Rattle.run_goodness.proofs.Names.{receive_steering, Steering, Input, setup_in, app_for}
use Rattle.run_goodness.proofs.Names.{flow_number_of, receive_queues, length, length-append, arith}
use Rattle.run_goodness.proofs.Names.{length-map, Chosen, Sent, ◌+◌, ◌≤◌, lane_at, History, own_in}
use Rattle.run_goodness.proofs.Names.{Execution, BoardFacts}
use Rattle.std.proofs.Common.{◌||◌, eq-eqb, ne_eqb}
use mathlib.Core.Logic.{dite}
use native.Mathlib.Decide.{ℕ_discrete}
use Rattle.steer_base.specs.Apps.{app_of}
use Rattle.hop_delivery.specs.Orders.DeliveryLaw.{came_by}
use Rattle.hop_delivery.specs.Orders.Runs.{IsSteering}
use Rattle.hop_delivery.specs.Closings.FlowLaw.{FlowsAreInOrder}
use Rattle.steer_model.specs.Good.Deliveries.{of_flow}
use Rattle.run_goodness.specs.Laws.{InboxesFollow}
use Rattle.board_api.specs.Laws.Lanes.{OutsAreSums}
use Rattle.run_coupling.specs.Laws.Ends.{AllAreSent, RepliesKeepChoices}
use Rattle.hop_rule.specs.Events.{sum_below}
use Rattle.hop_rule.proofs.Gates.{sum_same}
use Rattle.run_coupling.specs.Laws.OneCount.{KeepsCounts, OneCountSuffices, TotalsAreEqual}
use Rattle.run_coupling.specs.Laws.OneCount.{choice_count, delivered_count, dropped_count}
use Rattle.run_coupling.specs.Coupling.Ends.{accepted_count, retired_count}
use Rattle.run_coupling.proofs.Ends.PutCountLemmas.{puts-are-chosen}
use Rattle.run_coupling.proofs.Ends.TotalLemmas.{all-delivered}
use Rattle.run_coupling.proofs.Lists.SumLemmas.{sum-le}
use Rattle.run_coupling.proofs.Runs.FactLemmas.{facts_at_closings}

prefix_through : (xs ys zs : List ℕ) → IsPrefix xs ys → IsPrefix ys zs → IsPrefix xs zs
prefix_through xs ys zs a b =
    (a.0 ++ b.0, sym (append_assoc xs a.0 b.0) ∙ (ap (λ l. l ++ b.0) a.1 ∙ b.1))

prefix_kept : (set : ℕ → Bool) (xs ys : List ℕ) → IsPrefix xs ys
    → IsPrefix (filter set xs) (filter set ys)
prefix_kept set xs ys a = (filter set a.0, sym (filter-append set xs a.0) ∙ ap (filter set) a.1)

-- without drops nothing was dropped
none_dropped : (drops : List (List LaneDrop)) (x : ℕ) → ((c : ℕ) → get_or drops c [] ≡ [])
    → was_dropped drops x ≡ false
none_dropped [] x none = refl
none_dropped (ds ∷ rest) x none =
    let first : ds ≡ [] = none 0 in rw (first, none_dropped rest x (λ c. none (suc c))) refl

and_not_false : (a b : Bool) → b ≡ false → (a && not b) ≡ a
and_not_false true b e = rw e refl
and_not_false false b e = refl

-- of the items of a list that pass a wider test, those that pass a narrower one are those that pass
-- the narrower one at once
abbrev with_head : Bool → ℕ → List ℕ → List ℕ
with_head here x xs = if here then x ∷ xs else xs

member-kept : (p : ℕ → Bool) (here : Bool) (y : ℕ) (xs : List ℕ) → filter p (with_head here y xs)
    ≡ (if here then with_head (p y) y (filter p xs) else filter p xs)
member-kept p true y xs = refl
member-kept p false y xs = refl

pub narrower : (p q : ℕ → Bool) (xs : List ℕ)
    → ((y : ℕ) → is_in y xs ≡ true → p y ≡ true → q y ≡ true) → filter p (filter q xs) ≡ filter p xs
narrower p q [] implies = refl
narrower p q (x ∷ xs) implies =
    by_tests (p x) (q x) refl refl (implies x (is_in-here x x xs refl))
    (narrower p q xs (λ y is. implies y (wider y is)))
  where
    wider : (y : ℕ) → is_in y xs ≡ true → is_in y (x ∷ xs) ≡ true
    wider y is = elim (cases_eq y x) [
      | inl e ↦ is_in-here y x xs e
      | inr ne ↦ is_in-past y x xs ne ∙ is
    ]

    by_tests : (a b : Bool) → p x ≡ a → q x ≡ b → (p x ≡ true → q x ≡ true)
        → filter p (filter q xs) ≡ filter p xs
        → filter p (with_head (q x) x (filter q xs)) ≡ with_head (p x) x (filter p xs)
    by_tests a true pa qb gives older =
        (λ i. filter p (with_head (qb i) x (filter q xs))) ∙ ap (with_head (p x) x) older
    by_tests true false pa qb gives older = absurd (apart (sym qb ∙ gives pa))
      where
        apart : false ≡ true → ⊥
        apart e = absurd (cc)
    by_tests false false pa qb gives older =
        (λ i. filter p (with_head (qb i) x (filter q xs)))
        ∙ (older ∙ (λ i. with_head (sym pa i) x (filter p xs)))

-- If the packets of a set are in order in an out lane, replies were made to a front of it, none of
-- them was dropped, and those of a wider set left in the order of the replies, then the packets of
-- the set left in the order in which they arrived.
pub end_to_end : (set wider : ℕ → Bool) (arrivals inbox sent port : List ℕ)
    (drops tx_drops : List (List LaneDrop))
    → InOrder set arrivals drops inbox → IsPrefix sent inbox
    → ((c : ℕ) → get_or tx_drops c [] ≡ []) → InOrder wider sent tx_drops port
    → ((y : ℕ) → is_in y port ≡ true → set y ≡ true → wider y ≡ true)
    → ((y : ℕ) → is_in y sent ≡ true → set y ≡ true → wider y ≡ true)
    → InOrder set arrivals drops port
end_to_end set wider arrivals inbox sent port drops tx_drops first begins none second at_port
    at_sent =
    let kept : filter (λ x. wider x && not (was_dropped tx_drops x)) sent ≡ filter wider sent =
    filter_agree (λ x. wider x && not (was_dropped tx_drops x)) wider
    (λ x. and_not_false (wider x) (was_dropped tx_drops x) (none_dropped tx_drops x none)) sent in
    let left : IsPrefix (filter wider port) (filter wider sent) =
    (second.0, second.1 ∙ kept) in
    let within : IsPrefix (filter set port) (filter set sent) =
    (let f = prefix_kept set (filter wider port) (filter wider sent) left in (
      f.0,
      ap (λ l. l ++ f.0) (sym (narrower set wider port at_port))
          ∙ (f.1 ∙ narrower set wider sent at_sent),
    )) in
    prefix_through (filter set port) (filter set inbox)
    (filter (λ x. set x && not (was_dropped drops x)) arrivals)
    (prefix_through (filter set port) (filter set sent) (filter set inbox) within
    (prefix_kept set sent inbox begins)) first

pub any-is : (y : ℕ) (xs : List ℕ) → list_any (λ z. z == y) xs ≡ is_in y xs
any-is y [] = refl
any-is y (x ∷ xs) =
    dite (ℕ_discrete x y)
    (λ e. ap (λ b. b || list_any (λ z. z == y) xs) (eq-eqb x y e) ∙ sym (is_in-here y x xs (sym e)))
    (λ ne.
    ap (λ b. b || list_any (λ z. z == y) xs) (ne_eqb x y ne)
    ∙ (any-is y xs ∙ sym (is_in-past y x xs (λ e. ne (sym e)))))

pub inboxes_follow : (about : BoardSizes) (own : ℕ → List BoardStep) (lists : BoardLists)
    → FlowsAreInOrder about own lists
    → ((i : Input) → IsSteering about.lanes (receive_steering (receive_queues i)))
    → InboxesFollow about own lists
inboxes_follow about own lists law steers i h t hashes board arrivals meets p x less =
    let r : Steering = receive_steering (receive_queues i) in
    let f : ℕ = flow_number_of (setup_in i) x in
    let set : came_by t r p f ≡ of_flow i h p x =
    λ j y. (ap (λ b. b && (flow_number_of (setup_in i) y == f))
    (ap (λ xs. list_any (λ z. z == y) xs) (arrivals p) ∙ any-is y (arrivals_at h.arrivals p)) j) in
    let app : r.to f ≡ app_for (setup_in i) x =
    ap (λ o. app_of o (setup_in i).apps) (hashes x less) in
    subst (λ (z : ((ℕ → Bool) × List ℕ) × (List (List LaneDrop) × List ℕ)).
    InOrder z.0.0 z.0.1 z.1.0 z.1.1)
    (λ j. (
      (set j, arrivals p j),
      (
        map (λ (lane : LaneList). lane.drops) (sym board.lanes j),
        list_at (sym board.inboxes j) (app j),
      ),
    ))
    (law t r (steers i) meets p f)

none-of : {A : Type 0} (xs : List A) → length xs ≡ 0 → xs ≡ []
none-of [] e = refl
none-of (x ∷ xs) e = absurd (omega arith)

append-none : {A : Type 0} (xs : List A) → xs ++ [] ≡ xs
append-none [] = refl
append-none (x ∷ xs) = ap (λ z. x ∷ z) (append-none xs)

pub all_are_sent : (about : BoardSizes) (own : ℕ → List BoardStep) (lists : BoardLists)
    → OutsAreSums about own lists → AllAreSent about own lists
all_are_sent about own lists sums h a within inboxes front all_replied =
    let ids : List ℕ = map (λ (s : Sent). s.id) (list_at h.sent a) in
    let size = length-map (list_at h.sent a) (λ (s : Sent). s.id) in
    let all = length-append ids front.0 in
    let many = all_replied a within in
    let same = ap length front.1 in
    let out = ap (λ z. length (list_at z a)) inboxes in
    let total = sums a within in
    let empty : front.0 ≡ [] = none-of front.0 (omega arith) in
    sym (append-none ids) ∙ (ap (λ z. ids ++ z) (sym empty) ∙ front.1)

-- a reply and its choice, noted together
pub replies_keep_choices : RepliesKeepChoices
replies_keep_choices sent choices s c same keeps =
    map-append (λ (c : Chosen). c.id) choices (c ∷ [])
    ∙ ((λ k. keeps k ++ same k ∷ []) ∙ sym (map-append (λ (s : Sent). s.id) sent (s ∷ [])))
  where
    map-append : {A B : Type 0} (f : A → B) (xs ys : List A) → map f (xs ++ ys)
        ≡ map f xs ++ map f ys
    map-append f [] ys = refl
    map-append f (x ∷ xs) ys = ap (λ zs. f x ∷ zs) (map-append f xs ys)

-- of a lane's packets, no more were retired than delivered and accepted
module _ (about : BoardSizes) (own : ℕ → List BoardStep) (lists : BoardLists)
    (facts : BoardFacts about own lists) where
  retired-below : sum_below (retired_count about own) about.lanes
      ≤ sum_below (accepted_count about own) about.lanes
  retired-below =
      sum-le (retired_count about own) (accepted_count about own) about.lanes
      (λ l less.
      (let a = (facts.sums l less).accepted in
      let r = (facts.served l less).retired in
      let t = facts.turn l in
      let t0 = t.retired in
      let t1 = t.delivered in
      let t2 = t.pulled in omega arith))

  delivered-below : sum_below (delivered_count about own) about.lanes
      ≤ sum_below (accepted_count about own) about.lanes
  delivered-below =
      sum-le (delivered_count about own) (accepted_count about own) about.lanes
      (λ l less.
      (let a = (facts.sums l less).accepted in
      let r = (facts.served l less).delivered in
      let t = facts.turn l in
      let t1 = t.delivered in
      let t2 = t.pulled in omega arith))

  outs-delivered : sum_below (λ o. length (list_at lists.outs o)) about.outs
      ≡ sum_below (delivered_count about own) about.lanes
  outs-delivered =
      all-delivered about own lists facts.fit facts.gives.within facts.places facts.served
      facts.outs
      ∙ sum_same (λ l. (lane_at lists.lanes l).delivered) (delivered_count about own) about.lanes
      (λ l less. (facts.served l less).delivered)

module _ (h : History) (rx : BoardSizes) (rx_own : ℕ → List BoardStep) (rx_lists : BoardLists)
    (queues : Execution) (tx : BoardSizes) (tx_own : ℕ → List BoardStep) (tx_lists : BoardLists)
    (applications : Execution) (n : ℕ)
    (rx_facts : BoardFacts rx rx_own rx_lists) (tx_facts : BoardFacts tx tx_own tx_lists)
    (keeps : KeepsCounts h rx rx_own rx_lists queues tx tx_own applications)
    (few : choice_count h.choices ≤ n)
    (test : n
    ≡ sum_below (retired_count tx tx_own) tx.lanes + sum_below (dropped_count rx rx_own) rx.lanes)
  where
    -- the applications replied to not more than was delivered
    sent-below : sum_below (λ a. length (list_at h.sent a)) rx.outs
        ≤ sum_below (delivered_count rx rx_own) rx.lanes
    sent-below =
        let below = sum-le (λ a. length (list_at h.sent a)) (λ a. length (list_at rx_lists.outs a))
        rx.outs
        (λ k less.
        (let f = keeps.front k in
        let size = length-map (list_at h.sent k) (λ (s : Sent). s.id) in
        let all = length-append (map (λ (s : Sent). s.id) (list_at h.sent k)) f.0 in
        let same = ap length f.1 in
        let out = ap (λ z. length (list_at z k)) keeps.inboxes in omega arith)) in
        let outs = outs-delivered rx rx_own rx_lists rx_facts in
        omega arith

    choices-sent : choice_count h.tx_choices ≡ sum_below (λ a. length (list_at h.sent a)) rx.outs
    choices-sent =
        ap (λ m. sum_below (λ a. length (list_at h.tx_choices a)) m) keeps.lists
        ∙ sum_same (λ a. length (list_at h.tx_choices a)) (λ a. length (list_at h.sent a)) rx.outs
        (λ a less. keeps.replies a)

    one-count : TotalsAreEqual h rx rx_own tx tx_own n
    one-count =
        let a = puts-are-chosen rx rx_own queues h.choices keeps.received in
        let b = delivered-below rx rx_own rx_lists rx_facts in
        let c = sent-below in
        let d = choices-sent in
        let e = puts-are-chosen tx tx_own applications h.tx_choices keeps.sent in
        let f = retired-below tx tx_own tx_lists tx_facts in
        record {
          chosen = omega arith;
          sent = omega arith;
          replied = omega arith;
          received = λ done.
              (let g = sum_same (delivered_count rx rx_own) (retired_count rx rx_own) rx.lanes
              done in
              (omega arith, omega arith));
        }

pub one_count_suffices : OneCountSuffices
one_count_suffices h rx rx_seats rx_lists queues tx tx_seats tx_lists applications n rx_ended
    tx_ended keeps few test =
    one-count h rx (own_in rx_seats) rx_lists queues tx (own_in tx_seats) tx_lists applications n
    (facts_at_closings rx rx_seats rx_lists rx_ended)
    (facts_at_closings tx tx_seats tx_lists tx_ended) keeps few test

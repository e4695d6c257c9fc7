-- The packets of each receive queue and flow in order, as classes.
use Rattle.std.proofs.Common.{ℕ, ◌≡◌, ◌<◌, ◌++◌, Bool, true, false, List, [], Option, Some, None}
use Rattle.std.proofs.Common.{◌∷◌, length, map, refl, ap, ◌∙◌, sym, arith, inl, inr, get_or, subst}
use Rattle.std.specs.Prelude.{◌&&◌, ◌||◌, ◌==◌, filter, not}
use Rattle.std.specs.List.{All, concat, list_any, range_with_len}
use Rattle.std.specs.Option.{is_some, option_or}
use Rattle.std.proofs.lemmas.Bool.{and_parts, cases_eq, eq-eqb, eqb-true, ne_eqb}
use Rattle.std.proofs.lemmas.List.{get_or-map, length-map}
use Rattle.std.proofs.lemmas.Nat.{same_from_place}
use Rattle.steer_base.specs.Apps.{app_of}
use Rattle.steer_base.specs.Entries.{is_class}
use Rattle.steer_base.specs.Orders.{InOrder, IsPrefix, was_dropped}
use Rattle.steer_base.specs.declared.put.LaneDrop.{LaneDrop}
use Rattle.history.specs.Finding.{first_some, is_in, Once}
use Rattle.history.specs.Known.{IsKnown}
use Rattle.history.specs.Lines.{drop_in}
use Rattle.history.specs.Lists.{arrival_of, arrivals_at, list_at, no_arrival}
use Rattle.history.specs.Regular.{Regular}
use Rattle.history.specs.declared.arrival.Arrival.{Arrival}
use Rattle.history.specs.declared.history.History.{History}
use Rattle.history.specs.declared.known.Known.{Known}
use Rattle.history.specs.declared.lane_list.LaneList.{LaneList}
use Rattle.history.proofs.BoundLemmas.{in-index}
use Rattle.history.proofs.FindingLemmas.{is_in-here, is_in-past}
use Rattle.history.proofs.PlaceLemmas.{is_some-drop_in}
use Rattle.history.proofs.RegularLemmas.{arrival-at, arrived-inbox, arrived-port}
use Rattle.history.proofs.SamePlaces.{place-index}
use Rattle.rule_check.specs.Chains.{in_class, is_in_class}
use Rattle.steer_model.specs.Good.Deliveries.{IsDeliveredInOrder, of_flow}
use Rattle.steer_model.specs.Good.Inputs.{Input, setup_in}
use Rattle.steer_model.specs.State.Ranges.{AreOfFlows}
use Rattle.steer_model.specs.State.Setup.{app_for, flow_number_of}
use Rattle.good_check.specs.Order.{LeftInOrder, arrival_classes, kept_arrivals, queue_and_flow}
use Rattle.good_check.specs.Order.{was_kept}
use Rattle.good_check.proofs.OrderLemmas.{all-in, filter-agree, filter-alike}
use Rattle.good_check.proofs.OrderLemmas.{filter-both, filter-concat, filter-mapped, filter-some}
use Rattle.good_check.proofs.OrderLemmas.{in-concat, in-filter, once-filter, prefix-none}
use Rattle.good_check.proofs.OrderLemmas.{prefix-same}
use Rattle.good_check.proofs.SweptLemmas.{id-at}

-- a packet that some lane dropped
same-id : (y : ℕ) (drops : List LaneDrop)
    → is_in y (map (λ d. d.id) drops) ≡ list_any (λ d. d.id == y) drops
same-id y [] = refl
same-id y (d ∷ ds) = elim (cases_eq y d.id) [
  | inl e ↦
      let t : (d.id == y) ≡ true = eq-eqb d.id y (sym e) in
      is_in-here y d.id (map (λ c. c.id) ds) e
      ∙ sym (ap (λ b. b || list_any (λ c. c.id == y) ds) t)
  | inr ne ↦
      let f : (d.id == y) ≡ false = ne_eqb d.id y (λ e. ne (sym e)) in
      is_in-past y d.id (map (λ c. c.id) ds) ne ∙ same-id y ds
      ∙ sym (ap (λ b. b || list_any (λ c. c.id == y) ds) f)
]

some-either : {T : Type 0} (o p : Option T)
    → is_some (option_or o p) ≡ (is_some o || is_some p)
some-either None p = refl
some-either (Some a) p = refl

pub dropped-is : (y : ℕ) (lanes : List LaneList)
    → is_some (first_some (drop_in y) lanes) ≡ was_dropped (map (λ lane. lane.drops) lanes) y
dropped-is y [] = refl
dropped-is y (lane ∷ lanes) =
    some-either (drop_in y lane) (first_some (drop_in y) lanes)
    ∙ ap (λ b. b || is_some (first_some (drop_in y) lanes))
    (is_some-drop_in y lane ∙ same-id y lane.drops)
    ∙ ap (λ b. list_any (λ d. d.id == y) lane.drops || b) (dropped-is y lanes)

-- two classes are equal exactly if their queues and flows are
pub class-test : (flows q f r g : ℕ) → f < flows → g < flows
    → (queue_and_flow flows q f == queue_and_flow flows r g) ≡ ((r == q) && (g == f))
class-test flows q f r g l m = elim (cases_eq r q) [
  | inl e ↦ elim (cases_eq g f) [
    | inl u ↦
        rw (eq-eqb r q e, eq-eqb g f u)
        (eq-eqb (queue_and_flow flows q f) (queue_and_flow flows r g)
        (ap (λ n. queue_and_flow flows n f) (sym e) ∙ ap (queue_and_flow flows r) (sym u)))
    | inr ne ↦
        rw (eq-eqb r q e, ne_eqb g f ne)
        (ne_eqb (queue_and_flow flows q f) (queue_and_flow flows r g)
        (λ t. ne (sym (same_from_place q f r g flows l m t).1)))
  ]
  | inr ne ↦
      rw (ne_eqb r q ne) (ne_eqb (queue_and_flow flows q f) (queue_and_flow flows r g)
      (λ t. ne (sym (same_from_place q f r g flows l m t).0)))
]

-- whether three tests pass, in two orders
both-orders : (s f k : Bool) → (k && (s && f)) ≡ (s && ((s && f) && k))
both-orders true true true = refl
both-orders true true false = refl
both-orders true false true = refl
both-orders true false false = refl
both-orders false f true = refl
both-orders false f false = refl

-- the arrivals of a regular history, by their numbers
module _ (arrivals : List Arrival)
    (numbered : map (λ a. a.id) arrivals ≡ range_with_len 0 (length arrivals)) where
  abbrev ids : List ℕ
  ids = map (λ a. a.id) arrivals

  pub id-below : (y : ℕ) → is_in y ids ≡ true → y < length arrivals
  id-below y i =
      let w = place-index y ids i in
      let l : w.0 < length arrivals = omega (arith, w.1, length-map arrivals (λ a. a.id)) in
      let e : get_or ids w.0 0 ≡ w.0 =
      get_or-map (λ a. a.id) arrivals w.0 no_arrival 0 l ∙ id-at arrivals w.0 numbered l in
      omega (arith, sym w.2 ∙ e, l)

  pub below-id : (y : ℕ) → y < length arrivals → is_in y ids ≡ true
  below-id y l =
      let l' : y < length ids = omega (arith, l, length-map arrivals (λ a. a.id)) in
      subst (λ z. is_in z ids ≡ true)
      (get_or-map (λ a. a.id) arrivals y no_arrival 0 l ∙ id-at arrivals y numbered l)
      (in-index ids y l')

  pub once-ids : Once ids
  once-ids i j k l e =
      let n = length-map arrivals (λ a. a.id) in
      let k' : i < length arrivals = omega (arith, k, n) in
      let l' : j < length arrivals = omega (arith, l, n) in
      sym (at-place i k') ∙ e ∙ at-place j l'
    where
      at-place : (i : ℕ) → i < length arrivals → get_or ids i 0 ≡ i
      at-place i k =
          get_or-map (λ a. a.id) arrivals i no_arrival 0 k ∙ id-at arrivals i numbered k

  abbrev at_queue : ℕ → ℕ → Bool
  at_queue q y = (arrival_of arrivals y).queue == q

  pub queue-list : (q : ℕ) → arrivals_at arrivals q ≡ filter (at_queue q) ids
  queue-list q =
      ap (map (λ a. a.id)) (filter-alike (λ (a : Arrival). a.queue == q)
      (λ (a : Arrival). at_queue q a.id) no_arrival arrivals (λ k l.
      ap (λ (a : Arrival). a.queue == q) (sym (arrival-at k arrivals numbered l))
      ∙ ap (at_queue q) (sym (id-at arrivals k numbered l))))
      ∙ sym (filter-mapped (at_queue q) (λ (a : Arrival). a.id) arrivals)

  pub in-queue : (q y : ℕ) → y < length arrivals
      → is_in y (arrivals_at arrivals q) ≡ at_queue q y
  in-queue q y l =
      ap (is_in y) (queue-list q) ∙ in-filter (at_queue q) y ids
      ∙ ap (λ b. at_queue q y && b) (below-id y l) ∙ and-true (at_queue q y)
    where
      and-true : (b : Bool) → (b && true) ≡ b
      and-true true = refl
      and-true false = refl

module _ (i : Input) (h : History) (flows : AreOfFlows i.packets)
    (regular : Regular i.packets (length i.plan.apps) h)
    (known : Known) (is : IsKnown h known)
    (size : ℕ) (above : (x : ℕ) → flow_number_of (setup_in i) x < size) where
  abbrev count : ℕ
  count = length i.packets

  abbrev flow : ℕ → ℕ
  flow x = flow_number_of (setup_in i) x

  abbrev queue : ℕ → ℕ
  queue x = (arrival_of h.arrivals x).queue

  abbrev class : ℕ → ℕ → ℕ
  class q x = queue_and_flow size q (flow x)

  abbrev drops : List (List LaneDrop)
  drops = map (λ lane. lane.drops) h.lanes

  abbrev classes : List (Option ℕ)
  classes = arrival_classes size (setup_in i) h.arrivals

  abbrev came : List ℕ
  came = kept_arrivals known h.arrivals

  of-capture : (y : ℕ) → y < length h.arrivals → y < count
  of-capture y l = omega (arith, l, regular.arrived.of_the_capture)

  slot-is : (y : ℕ) → y < length h.arrivals → get_or classes y None ≡ Some (class (queue y) y)
  slot-is y l =
      get_or-map (λ (a : Arrival). Some (queue_and_flow size a.queue (flow a.id))) h.arrivals y
      no_arrival None l
      ∙ ap (λ (a : Arrival). Some (queue_and_flow size a.queue (flow a.id)))
      (sym (arrival-at y h.arrivals regular.arrived.numbered l))
      ∙ ap (λ z. Some (class (queue y) z))
      (ap (λ (a : Arrival). a.id) (arrival-at y h.arrivals regular.arrived.numbered l)
      ∙ id-at h.arrivals y regular.arrived.numbered l)

  -- a packet has the class of a queue and a flow exactly if it is of that flow there
  test-is : (q x y : ℕ) → x < count → y < length h.arrivals
      → is_in_class classes (class q x) y ≡ of_flow i h q x y
  test-is q x y l m =
      ap (is_class (class q x)) (slot-is y m)
      ∙ class-test size q (flow x) (queue y) (flow y) (above x) (above y)
      ∙ ap (λ b. b && (flow y == flow x))
      (sym (in-queue h.arrivals regular.arrived.numbered q y m))

  kept-is : (y : ℕ) → y < length h.arrivals → was_kept known y ≡ not (was_dropped drops y)
  kept-is y l =
      ap (λ o. not (is_some o)) (is.drops y l) ∙ ap not (dropped-is y h.lanes)

  came-is : (q x : ℕ) → x < count
      → in_class classes (class q x) came
      ≡ filter (λ y. of_flow i h q x y && not (was_dropped drops y)) (arrivals_at h.arrivals q)
  came-is q x l =
      let n = regular.arrived.numbered in
      let all = map (λ a. a.id) h.arrivals in
      let s = at_queue h.arrivals n q in
      let kept = λ (y : ℕ). not (was_dropped drops y) in
      filter-both (is_in_class classes (class q x)) (was_kept known) all
      ∙ filter-agree (λ y. was_kept known y && is_in_class classes (class q x) y)
      (λ y. s y && (of_flow i h q x y && kept y)) all (λ y j.
      let m : y < length h.arrivals = id-below h.arrivals n y j in
      let there : is_in y (arrivals_at h.arrivals q) ≡ s y = in-queue h.arrivals n q y m in
      let own : of_flow i h q x y ≡ (s y && (flow y == flow x)) =
      ap (λ b. b && (flow y == flow x)) there in
      ap (λ b. b && is_in_class classes (class q x) y) (kept-is y m)
      ∙ ap (λ b. kept y && b) (test-is q x y l m ∙ own)
      ∙ both-orders (s y) (flow y == flow x) (kept y)
      ∙ ap (λ b. s y && (b && kept y)) (sym own))
      ∙ sym (filter-both (λ y. of_flow i h q x y && kept y) s all)
      ∙ ap (filter (λ y. of_flow i h q x y && kept y)) (sym (queue-list h.arrivals n q))

  -- packets that all arrived are in the order of their arrivals, queue by queue and flow by flow
  abbrev pub AllInOrder : List ℕ → Type 0
  AllInOrder xs =
      (q x : ℕ) → x < count → InOrder (of_flow i h q x) (arrivals_at h.arrivals q) drops xs

  abbrev AreArrived : List ℕ → Type 0
  AreArrived xs = (y : ℕ) → is_in y xs ≡ true → y < length h.arrivals

  left-is : (q x : ℕ) (xs : List ℕ) → x < count → AreArrived xs
      → in_class classes (class q x) xs ≡ filter (of_flow i h q x) xs
  left-is q x xs l arrived =
      filter-agree (is_in_class classes (class q x)) (of_flow i h q x) xs
      (λ y j. test-is q x y l (arrived y j))

  pub order-to : (xs : List ℕ) → AreArrived xs → LeftInOrder classes came xs → AllInOrder xs
  order-to xs arrived o q x l =
      prefix-same (in_class classes (class q x) xs) (in_class classes (class q x) came)
      (filter (of_flow i h q x) xs)
      (filter (λ y. of_flow i h q x y && not (was_dropped drops y)) (arrivals_at h.arrivals q))
      (left-is q x xs l arrived) (came-is q x l) (o (class q x))

  pub order-from : (xs : List ℕ) → AreArrived xs → AllInOrder xs → LeftInOrder classes came xs
  order-from xs arrived o k = elim (filter-some (is_in_class classes k) xs) [
    | inl n ↦ prefix-none (in_class classes k xs) (in_class classes k came) n
    | inr w ↦
        let m : w.0 < length h.arrivals = arrived w.0 w.1 in
        let l : w.0 < count = of-capture w.0 m in
        let q = queue w.0 in
        let e : class q w.0 ≡ k =
        sym (eqb-true k (class q w.0) (sym (ap (is_class k) (slot-is w.0 m)) ∙ w.2)) in
        subst (λ n. IsPrefix (in_class classes n xs) (in_class classes n came)) e
        (prefix-same (filter (of_flow i h q w.0) xs)
        (filter (λ y. of_flow i h q w.0 y && not (was_dropped drops y)) (arrivals_at h.arrivals q))
        (in_class classes (class q w.0) xs) (in_class classes (class q w.0) came)
        (sym (left-is q w.0 xs l arrived)) (sym (came-is q w.0 l)) (o q w.0 l))
  ]

  pub inboxes-arrived : AreArrived (concat h.inboxes)
  inboxes-arrived y j =
      let w = in-concat y h.inboxes j in
      arrived-inbox i.packets (length i.plan.apps) h regular w.0 y w.1

  pub port-arrived : AreArrived h.port
  port-arrived y j = arrived-port i.packets (length i.plan.apps) h regular y j

  -- the packets of a flow are in one inbox
  one-app : (x y : ℕ) → x < count → y < count → flow y ≡ flow x
      → app_for (setup_in i) y ≡ app_for (setup_in i) x
  one-app x y l m e =
      ap (λ hash. app_of hash (length i.plan.apps)) (flows.one_hash y x m l e)

  inbox-is : (q x : ℕ) → x < count
      → filter (of_flow i h q x) (concat h.inboxes)
      ≡ filter (of_flow i h q x) (list_at h.inboxes (app_for (setup_in i) x))
  inbox-is q x l =
      filter-concat (of_flow i h q x) h.inboxes (app_for (setup_in i) x) (λ b y j t.
      let m : y < count =
      of-capture y (arrived-inbox i.packets (length i.plan.apps) h regular b y j) in
      let e : flow y ≡ flow x = eqb-true (flow y) (flow x)
      (and_parts (is_in y (arrivals_at h.arrivals q)) (flow y == flow x) t).1 in
      sym (regular.delivered.own b y j) ∙ one-app x y l m e)

  pub inboxes-to : AllInOrder (concat h.inboxes) → IsDeliveredInOrder i h
  inboxes-to o q x l =
      let p = o q x l in (p.0, ap (λ l. l ++ p.0) (sym (inbox-is q x l)) ∙ p.1)

  pub inboxes-from : IsDeliveredInOrder i h → AllInOrder (concat h.inboxes)
  inboxes-from o q x l =
      let p = o q x l in (p.0, ap (λ l. l ++ p.0) (inbox-is q x l) ∙ p.1)

  -- what the chains of the classes need
  pub came-arrived : AreArrived came
  came-arrived y j =
      let all = map (λ a. a.id) h.arrivals in
      let both : (was_kept known y && is_in y all) ≡ true =
      sym (in-filter (was_kept known) y all) ∙ j in
      id-below h.arrivals regular.arrived.numbered y
      (and_parts (was_kept known y) (is_in y all) both).1

  pub came-once : Once came
  came-once =
      once-filter (was_kept known) (map (λ a. a.id) h.arrivals)
      (once-ids h.arrivals regular.arrived.numbered)

  pub within-classes : (xs : List ℕ) → AreArrived xs → All (λ x. x < length classes) xs
  within-classes xs arrived = all-in (λ x. x < length classes) xs (λ y j.
      omega (
        arith,
        arrived y j,
        length-map h.arrivals (λ a. Some (queue_and_flow size a.queue (flow a.id))),
      ))

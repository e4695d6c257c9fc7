-- In a good history all packets that were not dropped are delivered, in order.
use Rattle.std.proofs.Common.{ℕ, zero, suc, ◌+◌, ◌<◌, ◌≡◌, ◌++◌, Bool, true, false, List, []}
use Rattle.std.proofs.Common.{◌∷◌, length, map, refl, ap, ◌∙◌, sym, subst, arith, inl, inr}
use Rattle.std.proofs.Common.{get_or, append-nil}
use Rattle.std.specs.Prelude.{◌&&◌, ◌||◌, ◌==◌, filter, not}
use Rattle.std.specs.List.{list_any}
use Rattle.std.specs.Option.{is_some}
use Rattle.std.proofs.Math.ListN.{get_or-append}
use Rattle.std.proofs.lemmas.Bool.{cases_Bool, cases_eq, eq-eqb, eqb-true, ne_eqb}
use Rattle.std.proofs.lemmas.List.{get_or-append-add, length-append}
use Rattle.std.proofs.lemmas.List.Elements.{filter_passes}
use Rattle.steer_base.specs.Entries.{place_in}
use Rattle.steer_base.specs.Orders.{IsPrefix, was_dropped}
use Rattle.steer_base.specs.declared.put.LaneDrop.{LaneDrop}
use Rattle.history.specs.Finding.{is_in, Once}
use Rattle.history.specs.Lists.{app_at, arrivals_at, drop_ids, lane_at, list_at, packet_at}
use Rattle.history.specs.declared.arrival.Arrival.{Arrival}
use Rattle.history.specs.declared.history.History.{History}
use Rattle.history.specs.declared.lane_list.LaneList.{LaneList}
use Rattle.history.proofs.BoundLemmas.{in-index}
use Rattle.history.proofs.FindingLemmas.{is_in-here, is_in-past}
use Rattle.history.proofs.FoundAgain.Arrivals.{arrivals-once}
use Rattle.history.proofs.OwnLemmas.{none-unless, not-true}
use Rattle.history.proofs.RegularLemmas.{arrived-inbox}
use Rattle.history.proofs.SamePlaces.{Once-cons, Once-head, Once-tail, place-index}
use Rattle.steer_base.specs.Apps.{app_of}
use Rattle.steer_model.specs.Good.GoodHistory.{Good}
use Rattle.steer_model.specs.Good.Inputs.{Input}
use Rattle.steer_model.specs.State.Ranges.{AreOfFlows}
use Rattle.headline.specs.Laws.{GoodHistoriesAreWhole}
use Rattle.headline.specs.Orders.{AreAllInOrder, came_by}

-- ---- filtered lists

in-some : (p : ℕ → Bool) (y : ℕ) (xs : List ℕ) → is_in y xs ≡ true → p y ≡ true
    → is_in y (filter p xs) ≡ true
in-some p y [] i t = i
in-some p y (x ∷ xs) i t =
    elim (cases_eq y x) [
      | inl e ↦
          let here : p x ≡ true = ap p (sym e) ∙ t in rw here (is_in-here y x (filter p xs) e)
      | inr ne ↦
          let rest = in-some p y xs (sym (is_in-past y x xs ne) ∙ i) t in
          elim (cases_Bool (p x)) [
            | inl s ↦ rw s (is_in-past y x (filter p xs) ne ∙ rest)
            | inr s ↦ rw s rest
          ]
    ]

in-filtered : (p : ℕ → Bool) (y : ℕ) (xs : List ℕ) → is_in y (filter p xs) ≡ true
    → is_in y xs ≡ true
in-filtered p y [] i = i
in-filtered p y (x ∷ xs) i =
    elim (cases_eq y x) [
      | inl e ↦ is_in-here y x xs e
      | inr ne ↦ is_in-past y x xs ne ∙ elim (cases_Bool (p x)) [
        | inl s ↦
            let first : is_in y (filter p (x ∷ xs)) ≡ is_in y (x ∷ filter p xs) = rw s refl in
            in-filtered p y xs
            (sym (is_in-past y x (filter p xs) ne) ∙ sym first ∙ i)
        | inr s ↦
            let first : is_in y (filter p (x ∷ xs)) ≡ is_in y (filter p xs) = rw s refl in
            in-filtered p y xs (sym first ∙ i)
      ]
    ]

once-some : (p : ℕ → Bool) (xs : List ℕ) → Once xs → Once (filter p xs)
once-some p [] o = o
once-some p (x ∷ xs) o =
    let rest = once-some p xs (Once-tail x xs o) in
    let lacks : is_in x (filter p xs) ≡ false =
    not-true (is_in x (filter p xs)) (λ i. (
    let f : true ≡ false =
    sym (in-filtered p x xs i) ∙ ap is_some (Once-head x xs o) in cc)) in
    elim (cases_Bool (p x)) [
      | inl t ↦ (
          let is : filter p (x ∷ xs) ≡ x ∷ filter p xs = rw t refl in
          subst Once (sym is)
          (Once-cons x (filter p xs) (none-unless (place_in x (filter p xs)) lacks) rest))
      | inr f ↦ let is : filter p (x ∷ xs) ≡ filter p xs = rw f refl in subst Once (sym is) rest
    ]

-- A front of what passes is all of it, if each packet that passes is in the front.
module _ (set ok : ℕ → Bool) (arrivals delivered : List ℕ) (once : Once arrivals)
    (all : (y : ℕ) → is_in y arrivals ≡ true → ok y ≡ true
    → (is_in y delivered ≡ true) × (set y ≡ true)) where
  abbrev front : List ℕ
  front = filter set delivered

  abbrev passed : List ℕ
  passed = filter ok arrivals

  -- what stands behind the front stands in it too
  not-behind : (y : ℕ) (ys : List ℕ) → front ++ y ∷ ys ≡ passed → ⊥
  not-behind y ys is =
      let long : length passed ≡ length front + length (y ∷ ys) =
      ap length (sym is) ∙ length-append front (y ∷ ys) in
      let at : get_or passed (length front) 0 ≡ y =
      ap (λ xs. get_or xs (length front) 0) (sym is)
      ∙ ap (λ n. get_or (front ++ y ∷ ys) n 0) (omega arith)
      ∙ get_or-append-add front (y ∷ ys) 0 0 in
      let here : is_in y passed ≡ true =
      ap (λ z. is_in z passed) (sym at)
      ∙ in-index passed (length front) (omega (arith, long)) in
      let passes : ok y ≡ true =
      ap ok (sym at) ∙ filter_passes ok arrivals (length front) 0 (omega (arith, long)) in
      let (there, same) = all y (in-filtered ok y arrivals here) passes in
      let (i, lt, first) = place-index y front (in-some set y delivered there same) in
      let before : get_or passed i 0 ≡ get_or passed (length front) 0 =
      ap (λ xs. get_or xs i 0) (sym is) ∙ get_or-append front (y ∷ ys) 0 i lt ∙ first ∙ sym at in
      let e : i ≡ length front =
      once-some ok arrivals once i (length front) (omega (arith, lt, long))
      (omega (arith, long)) before in
      omega (arith, e, lt)

  all-of-it : IsPrefix front passed → front ≡ passed
  all-of-it ([], is) = sym (append-nil front) ∙ is
  all-of-it (y ∷ ys, is) = absurd (not-behind y ys is)

-- ---- dropped packets

any-id : (y : ℕ) (drops : List LaneDrop) → is_in y (map (λ d. d.id) drops) ≡ true
    → list_any (λ d. d.id == y) drops ≡ true
any-id y [] i = i
any-id y (d ∷ ds) i =
    elim (cases_eq y d.id) [
      | inl e ↦ ap (λ b. b || list_any (λ c. c.id == y) ds) (eq-eqb d.id y (sym e))
      | inr ne ↦
          ap (λ b. b || list_any (λ c. c.id == y) ds) (ne_eqb d.id y (λ e. ne (sym e)))
          ∙ any-id y ds (sym (is_in-past y d.id (map (λ c. c.id) ds) ne) ∙ i)
    ]

or-true : (b c : Bool) → c ≡ true → (b || c) ≡ true
or-true true c t = refl
or-true false c t = t

dropped-at : (y : ℕ) (lanes : List LaneList) (c : ℕ) → is_in y (drop_ids (lane_at lanes c)) ≡ true
    → was_dropped (map (λ lane. lane.drops) lanes) y ≡ true
dropped-at y [] c i = i
dropped-at y (lane ∷ lanes) zero i =
    ap (λ b. b || was_dropped (map (λ l. l.drops) lanes) y) (any-id y lane.drops i)
dropped-at y (lane ∷ lanes) (suc c) i =
    or-true (list_any (λ d. d.id == y) lane.drops) (was_dropped (map (λ l. l.drops) lanes) y)
    (dropped-at y lanes c i)

-- ---- a good history

both : (a b : Bool) → (a && b) ≡ true → (a ≡ true) × (b ≡ true)
both true true t = (refl, refl)
both true false t = absurd cc
both false b t = absurd cc

in-all : (q y : ℕ) (arrivals : List Arrival) → is_in y (arrivals_at arrivals q) ≡ true
    → is_in y (map (λ a. a.id) arrivals) ≡ true
in-all q y [] i = i
in-all q y (a ∷ rest) i =
    elim (cases_eq y a.id) [
      | inl e ↦ is_in-here y a.id (map (λ b. b.id) rest) e
      | inr ne ↦
          is_in-past y a.id (map (λ b. b.id) rest) ne ∙ elim (cases_Bool (a.queue == q)) [
            | inl t ↦
                let first : is_in y (arrivals_at (a ∷ rest) q)
                ≡ is_in y (a.id ∷ arrivals_at rest q) = rw t refl in
                in-all q y rest (sym (is_in-past y a.id (arrivals_at rest q) ne) ∙ sym first ∙ i)
            | inr f ↦
                let first : is_in y (arrivals_at (a ∷ rest) q) ≡ is_in y (arrivals_at rest q) =
                rw f refl in
                in-all q y rest (sym first ∙ i)
          ]
    ]

module _ (i : Input) (h : History) (flows : AreOfFlows i.packets) (good : Good i h) (q x : ℕ)
    (lt : x < length i.packets) where
  abbrev set : ℕ → Bool
  set = came_by i.packets h q x

  abbrev kept : ℕ → Bool
  kept y = set y && not (was_dropped (map (λ lane. lane.drops) h.lanes) y)

  abbrev app : ℕ
  app = app_at i.packets (length i.plan.apps) x

  once : Once (arrivals_at h.arrivals q)
  once = arrivals-once q h.arrivals good.steered.regular.arrived.numbered

  -- a packet that was not dropped is in an inbox
  in-inbox : (y : ℕ) → is_in y (arrivals_at h.arrivals q) ≡ true → kept y ≡ true
      → (a : ℕ) × (is_in y (list_at h.inboxes a) ≡ true)
  in-inbox y here passes =
      elim (good.swept.ended y (in-all q y h.arrivals here)) [
        | inl w ↦ w
        | inr (c, fell) ↦ absurd (
            let stays =
            (both (set y) (not (was_dropped (map (λ l. l.drops) h.lanes) y)) passes).1 in
            let f : false ≡ true = sym (ap not (dropped-at y h.lanes c fell)) ∙ stays in cc)
      ]

  -- and that is the inbox of the flow
  in-its-inbox : (y : ℕ) → is_in y (arrivals_at h.arrivals q) ≡ true → kept y ≡ true
      → (is_in y (list_at h.inboxes app) ≡ true) × (set y ≡ true)
  in-its-inbox y here passes =
      let (a, is) = in-inbox y here passes in
      let of = (both (set y) (not (was_dropped (map (λ l. l.drops) h.lanes) y)) passes).0 in
      let flow : (packet_at i.packets y).flow_number ≡ (packet_at i.packets x).flow_number =
      eqb-true (packet_at i.packets y).flow_number (packet_at i.packets x).flow_number
      (both (is_in y (arrivals_at h.arrivals q))
      ((packet_at i.packets y).flow_number == (packet_at i.packets x).flow_number) of).1 in
      let arrived : y < length h.arrivals =
      arrived-inbox i.packets (length i.plan.apps) h good.steered.regular a y is in
      let few = good.steered.regular.arrived.of_the_capture in
      let hash : (packet_at i.packets y).hash ≡ (packet_at i.packets x).hash =
      flows.one_hash y x (omega (arith, arrived, few)) lt flow in
      let own : app ≡ a =
      ap (λ o. app_of o (length i.plan.apps)) (sym hash)
      ∙ good.steered.regular.delivered.own a y is in
      (ap (λ b. is_in y (list_at h.inboxes b)) own ∙ is, of)

  on-port : (y : ℕ) → is_in y (arrivals_at h.arrivals q) ≡ true → kept y ≡ true
      → (is_in y h.port ≡ true) × (set y ≡ true)
  on-port y here passes =
      let (a, is) = in-inbox y here passes in (
        good.swept.shipped a y is,
        (both (set y) (not (was_dropped (map (λ l. l.drops) h.lanes) y)) passes).0,
      )

  whole-inbox : AreAllInOrder i.packets h q x (list_at h.inboxes app)
  whole-inbox =
      all-of-it set kept (arrivals_at h.arrivals q) (list_at h.inboxes app) once in-its-inbox
      (good.steered.order q x lt)

  whole-port : AreAllInOrder i.packets h q x h.port
  whole-port =
      all-of-it set kept (arrivals_at h.arrivals q) h.port once on-port
      (good.replies.leave.end_to_end q x lt)

pub good-is-whole : GoodHistoriesAreWhole
good-is-whole i h flows good =
    record {
      inboxes = λ q x lt. whole-inbox i h flows good q x lt;
      port = λ q x lt. whole-port i h flows good q x lt;
    }

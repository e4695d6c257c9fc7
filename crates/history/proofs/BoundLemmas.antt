-- The lists of a regular history hold no more packets than arrived.
use Rattle.std.proofs.Common.{ℕ, ◌+◌, ◌≤◌, ◌<◌, ◌≡◌, true, false, List, [], ◌∷◌, ◌++◌, length, ap}
use Rattle.std.proofs.Common.{◌∙◌, sym, arith, suc, zero, refl, inl, inr, get_or, subst, eqb}
use Rattle.std.specs.Prelude.{◌==◌}
use Rattle.std.specs.List.{IsDistinct, list_any}
use Rattle.std.proofs.Math.ListN.{get_or-eq_default, get_or-append}
use Rattle.std.proofs.lemmas.Bool.{cases_eq, cases_lt, ne_eqb}
use Rattle.std.proofs.lemmas.Grind.{get_or_default_zero}
use Rattle.std.proofs.lemmas.List.{get_or-append-add, get_or-map, length-map}
use Rattle.std.proofs.lemmas.Map.Keys.{IsDistinct-from_apart}
use Rattle.std.proofs.lemmas.Map.Steps.{length-le_from_distinct_below}
use Rattle.steer_base.specs.Orders.{Apart}
use Rattle.steer_base.specs.declared.packet.Packet.{Packet}
use Rattle.history.specs.Finding.{is_in, Once}
use Rattle.history.specs.Known.{HasShortLists}
use Rattle.history.specs.Lists.{app_at, no_lane, list_at, lane_at, drop_ids, accepted_lists}
use Rattle.history.specs.Lists.{dropped_lists}
use Rattle.history.specs.Regular.{AreDelivered, Regular}
use Rattle.history.specs.declared.history.History.{History}
use Rattle.history.specs.declared.lane_list.LaneList.{LaneList}
use Rattle.history.proofs.FindingLemmas.{is_in-here, is_in-past}
use Rattle.history.proofs.RegularLemmas.{arrived-accepted, arrived-dropped, arrived-inbox}
use Rattle.history.proofs.RegularLemmas.{arrived-shipped, arrived-port}

listed : (x : ℕ) (xs : List ℕ) → list_any (eqb x) xs ≡ true → is_in x xs ≡ true
listed x [] e = absurd (cc)
listed x (y ∷ ys) e =
    elim (cases_eq x y) [
      | inl t ↦ is_in-here x y ys t
      | inr ne ↦ let t : (x == y) ≡ false = ne_eqb x y ne in let f : list_any (eqb x) ys ≡ true =
          rw t at e in is_in-past x y ys ne ∙ listed x ys f
    ]

distinct : (xs : List ℕ) → Once xs → IsDistinct eqb xs
distinct xs once =
    IsDistinct-from_apart eqb xs (λ i j d b l. ne_eqb (get_or xs i d) (get_or xs j d) (λ e.
    let li : i < length xs = omega arith in
    let f : i ≡ j = once i j li l (sym (get_or_default_zero xs i d li) ∙ e
    ∙ get_or_default_zero xs j d l) in omega arith))

-- numbers below n, each once, are at most n
pub at-most : (xs : List ℕ) (n : ℕ) → Once xs → ((x : ℕ) → is_in x xs ≡ true → x < n)
    → length xs ≤ n
at-most xs n once below = length-le_from_distinct_below xs n (distinct xs once)
    (λ x e. below x (listed x xs e))

once-nil : Once []
once-nil i j a b e = absurd (omega arith)

-- where no number stands twice in some lists, none stands twice in one of them
pub once-apart : (lists : List (List ℕ)) (p : ℕ) → Apart lists → Once (list_at lists p)
once-apart lists p apart i j a b e =
    elim (cases_lt p (length lists)) [
      | inl l ↦ (apart p p i j l l a b e).1
      | inr l ↦ let n : list_at lists p ≡ [] = get_or-eq_default lists [] l in
          let m : length (list_at lists p) ≡ 0 = ap length n in absurd (omega arith)
    ]

pub list-accepted : (lanes : List LaneList) (c : ℕ)
    → list_at (accepted_lists lanes) c ≡ (lane_at lanes c).accepted
list-accepted lanes c =
    elim (cases_lt c (length lanes)) [
      | inl l ↦ get_or-map (λ lane. lane.accepted) lanes c no_lane [] l
      | inr l ↦
          let m : length lanes ≤ c = l in
          let k : length (accepted_lists lanes) ≤ c =
          omega (arith, length-map lanes (λ lane. lane.accepted)) in
          get_or-eq_default (accepted_lists lanes) [] k
          ∙ sym (ap (λ lane. lane.accepted) (get_or-eq_default lanes no_lane m))
    ]

pub list-dropped : (lanes : List LaneList) (c : ℕ) → list_at (dropped_lists lanes) c ≡ drop_ids
    (lane_at lanes c)
list-dropped lanes c =
    elim (cases_lt c (length lanes)) [
      | inl l ↦ get_or-map drop_ids lanes c no_lane [] l
      | inr l ↦
          let m : length lanes ≤ c = l in
          let k : length (dropped_lists lanes) ≤ c = omega (arith, length-map lanes drop_ids) in
          get_or-eq_default (dropped_lists lanes) [] k
          ∙ sym (ap drop_ids (get_or-eq_default lanes no_lane m))
    ]

-- each of the lists of accepted and of dropped packets together
module _ (lanes : List LaneList) (apart : Apart (accepted_lists lanes ++ dropped_lists lanes)) where
  pub once-accepted : (c : ℕ) → Once (lane_at lanes c).accepted
  once-accepted c =
      elim (cases_lt c (length lanes)) [
        | inl l ↦
            let k : c < length (accepted_lists lanes) =
            omega (arith, length-map lanes (λ lane. lane.accepted)) in
            subst Once (get_or-append (accepted_lists lanes) (dropped_lists lanes) [] c k
            ∙ list-accepted lanes c)
            (once-apart (accepted_lists lanes ++ dropped_lists lanes) c apart)
        | inr l ↦ subst (λ lane. Once lane.accepted) (sym (get_or-eq_default lanes no_lane l))
            once-nil
      ]

  pub once-dropped : (c : ℕ) → Once (drop_ids (lane_at lanes c))
  once-dropped c =
      subst Once (get_or-append-add (accepted_lists lanes) (dropped_lists lanes) c []
      ∙ list-dropped lanes c)
      (once-apart (accepted_lists lanes ++ dropped_lists lanes) (length (accepted_lists lanes) + c)
      apart)

-- The lists are short.
pub short-lists : (packets : List Packet) (apps : ℕ) (h : History) → Regular packets apps h
    → length packets ≤ 262144 → HasShortLists h
short-lists packets apps h r few =
    let n : length h.arrivals ≤ length packets = r.arrived.of_the_capture in
    record {
      accepted = λ c.
          let l : length (lane_at h.lanes c).accepted ≤ length h.arrivals =
          at-most (lane_at h.lanes c).accepted (length h.arrivals)
          (once-accepted h.lanes r.steered.once c)
          (λ x s. arrived-accepted packets apps h r c x s) in
          omega arith;
      dropped = λ c.
          let l : length (drop_ids (lane_at h.lanes c)) ≤ length h.arrivals =
          at-most (drop_ids (lane_at h.lanes c)) (length h.arrivals)
          (once-dropped h.lanes r.steered.once c)
          (λ x s. arrived-dropped packets apps h r c x s) in
          omega (arith, length-map (lane_at h.lanes c).drops (λ d. d.id));
      inboxes = λ a.
          let l : length (list_at h.inboxes a) ≤ length h.arrivals = at-most (list_at h.inboxes a)
          (length h.arrivals) (r.delivered.once a)
          (λ x s. arrived-inbox packets apps h r a x s) in
          omega arith;
      shipped = λ t.
          let o : Once (lane_at h.tx_lanes t).accepted = subst Once (list-accepted h.tx_lanes t)
          (once-apart (accepted_lists h.tx_lanes) t r.shipped.once) in
          let l : length (lane_at h.tx_lanes t).accepted ≤ length h.arrivals =
          at-most (lane_at h.tx_lanes t).accepted (length h.arrivals) o
          (λ x s. arrived-shipped packets apps h r t x s) in
          omega arith;
      port =
          let l : length h.port ≤ length h.arrivals =
          at-most h.port (length h.arrivals) r.shipped.port_once
          (λ x s. arrived-port packets apps h r x s) in
          omega arith;
    }

-- No packet is in two inboxes: each is in that of its application.
pub in-index : (xs : List ℕ) (i : ℕ) → i < length xs → is_in (get_or xs i 0) xs ≡ true
in-index [] i l = absurd (omega arith)
in-index (y ∷ ys) zero l = is_in-here y y ys refl
in-index (y ∷ ys) (suc i) l =
    elim (cases_eq (get_or ys i 0) y) [
      | inl e ↦ is_in-here (get_or ys i 0) y ys e
      | inr ne ↦ is_in-past (get_or ys i 0) y ys ne ∙ in-index ys i (omega arith)
    ]

pub inboxes-apart : (packets : List Packet) (apps : ℕ) (h : History) → AreDelivered packets apps h
    → Apart h.inboxes
inboxes-apart packets apps h delivered p q i j a b k l e =
    let x = get_or (list_at h.inboxes p) i 0 in
    let left : app_at packets apps x ≡ p = delivered.own p x (in-index (list_at h.inboxes p) i k) in
    let right : app_at packets apps x ≡ q =
    delivered.own q x (subst (λ y. is_in y (list_at h.inboxes q) ≡ true) (sym e)
    (in-index (list_at h.inboxes q) j l)) in
    let same : p ≡ q = sym left ∙ right in
    let l' : j < length (list_at h.inboxes p) = subst (λ n. j < length (list_at h.inboxes n))
    (sym same) l in
    let e' : get_or (list_at h.inboxes p) i 0 ≡ get_or (list_at h.inboxes p) j 0 =
    e ∙ ap (λ n. get_or (list_at h.inboxes n) j 0) (sym same) in
    (same, delivered.once p i j k l' e')

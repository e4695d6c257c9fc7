-- A history is swept if each packet that arrived has come to its end, and each lane is done.
use Rattle.std.proofs.Common.{ℕ, zero, suc, ◌≡◌, ◌<◌, ◌+◌, Bool, true, false, List, [], ◌∷◌}
use Rattle.std.proofs.Common.{Option, Some, None, map, refl, ap, ◌∙◌, sym, arith, inl, inr, subst}
use Rattle.std.proofs.Common.{length, get_or}
use Rattle.std.specs.Prelude.{◌&&◌, if◌then◌else◌}
use Rattle.std.specs.List.{All, list_all, range_with_len}
use Rattle.std.proofs.lemmas.List.{get_or_default}
use Rattle.std.proofs.lemmas.List.Sums.{AllPass-from_list_all, list_all-from_AllPass}
use Rattle.std.proofs.lemmas.List.{get_or-map, length-map}
use Rattle.std.specs.Option.{is_some, option_or}
use Rattle.std.proofs.lemmas.Bool.{and_parts, cases_Bool, cases_lt, eq-eqb, eqb-true}
use Rattle.std.proofs.Math.ListN.{get_or-eq_default}
use Rattle.steer_base.specs.Entries.{place_in}
use Rattle.steer_base.specs.declared.packet.Packet.{Packet}
use Rattle.history.specs.Finding.{first_some, found, is_in}
use Rattle.history.specs.Lines.{drop_in, first_reply_to, inbox_place_of}
use Rattle.history.specs.Lists.{app_at, drop_ids, lane_at, list_at, no_arrival, no_lane}
use Rattle.history.specs.Places.{has_arrived}
use Rattle.history.specs.Regular.{Regular}
use Rattle.history.specs.declared.arrival.Arrival.{Arrival}
use Rattle.history.specs.declared.history.History.{History}
use Rattle.history.specs.declared.lane_list.LaneList.{LaneList}
use Rattle.history.proofs.PlaceLemmas.{is_some-drop_in}
use Rattle.history.proofs.RegularLemmas.{arrived-inbox, found-key, found-numbered, is_some-found}
use Rattle.history.proofs.RegularLemmas.{sent-inbox}
use Rattle.history.proofs.BoundLemmas.{in-index}
use Rattle.history.proofs.SamePlaces.{place-index}
use Rattle.steer_model.specs.Good.Deliveries.{IsDone, IsSwept}
use Rattle.good_check.specs.Swept.{has_ended, is_done}

-- what a look-up finds in some list is in one of them, and the other way round
pub first-at : {B T : Type 0} (look : B → Option T) (d : B) (xs : List B)
    → is_some (first_some look xs) ≡ true
    → (c : ℕ) × (c < length xs) × (is_some (look (get_or xs c d)) ≡ true)
first-at look d [] e = absurd (cc)
first-at look d (x ∷ xs) e = elim (cases_Bool (is_some (look x))) [
  | inl t ↦ (0, omega arith, t)
  | inr f ↦
      let n : look x ≡ None = none-unless (look x) f in
      let w = first-at look d xs (sym (ap (λ o. is_some (option_or o (first_some look xs))) n) ∙ e)
      in (suc w.0, omega (arith, w.1), w.2)
]
  where
    none-unless : {T : Type 0} (o : Option T) → is_some o ≡ false → o ≡ None
    none-unless None e = refl
    none-unless (Some a) e = absurd (cc)

some-or : {T : Type 0} (o p : Option T) → is_some p ≡ true → is_some (option_or o p) ≡ true
some-or None p e = e
some-or (Some a) p e = refl

some-first : {T : Type 0} (o p : Option T) → is_some o ≡ true → is_some (option_or o p) ≡ true
some-first None p e = absurd (cc)
some-first (Some a) p e = refl

pub at-first : {B T : Type 0} (look : B → Option T) (d : B) (xs : List B) (c : ℕ)
    → c < length xs → is_some (look (get_or xs c d)) ≡ true
    → is_some (first_some look xs) ≡ true
at-first look d [] c l e = absurd (omega (arith, l))
at-first look d (x ∷ xs) zero l e = some-first (look x) (first_some look xs) e
at-first look d (x ∷ xs) (suc c) l e =
    some-or (look x) (first_some look xs) (at-first look d xs c (omega (arith, l)) e)

within : {A : Type 0} (test : A → Bool) (d : A) (xs : List A) (c : ℕ) → test d ≡ false
    → test (get_or xs c d) ≡ true → c < length xs
within test d xs c n e = elim (cases_lt c (length xs)) [
  | inl l ↦ l
  | inr l ↦ let f : test (get_or xs c d) ≡ false = ap test (get_or-eq_default xs d l) ∙ n in
      absurd (cc)
]

-- the arrival at a place has its number
pub id-at : (arrivals : List Arrival) (x : ℕ)
    → map (λ a. a.id) arrivals ≡ range_with_len 0 (length arrivals) → x < length arrivals
    → (get_or arrivals x no_arrival).id ≡ x
id-at arrivals x e l =
    let n : 0 + x ≡ x = omega arith in
    found-key (λ a. a.id) x arrivals (get_or arrivals x no_arrival)
    (subst (λ m. found (λ a. a.id) m arrivals ≡ Some (get_or arrivals x no_arrival)) n
    (found-numbered 0 x arrivals no_arrival e l))

module _ (packets : List Packet) (apps : ℕ) (h : History) (regular : Regular packets apps h) where
  pub inbox-of : (x : ℕ) → is_some (inbox_place_of h x) ≡ true
      → (a : ℕ) × (is_in x (list_at h.inboxes a) ≡ true)
  inbox-of x e = let w = first-at (place_in x) [] h.inboxes e in (w.0, w.2)

  pub of-inbox : (a x : ℕ) → is_in x (list_at h.inboxes a) ≡ true
      → is_some (inbox_place_of h x) ≡ true
  of-inbox a x e =
      at-first (place_in x) [] h.inboxes a (within (is_in x) [] h.inboxes a refl e) e

  pub drop-of : (x : ℕ) → is_some (first_some (drop_in x) h.lanes) ≡ true
      → (c : ℕ) × (is_in x (drop_ids (lane_at h.lanes c)) ≡ true)
  drop-of x e =
      let w = first-at (drop_in x) no_lane h.lanes e in
      (w.0, sym (is_some-drop_in x (lane_at h.lanes w.0)) ∙ w.2)

  pub of-drop : (c x : ℕ) → is_in x (drop_ids (lane_at h.lanes c)) ≡ true
      → is_some (first_some (drop_in x) h.lanes) ≡ true
  of-drop c x e =
      at-first (drop_in x) no_lane h.lanes c
      (within (λ lane. is_in x (drop_ids lane)) no_lane h.lanes c refl e)
      (is_some-drop_in x (lane_at h.lanes c) ∙ e)

  -- a reply is to a packet of its own application's inbox
  pub reply-of : (a x : ℕ) → is_in x (list_at h.inboxes a) ≡ true
      → is_some (first_reply_to h x) ≡ true
      → is_in x (map (λ s. s.id) (list_at h.sent a)) ≡ true
  reply-of a x inbox e =
      let w = first-at (found (λ s. s.id) x) [] h.sent e in
      let there : is_in x (map (λ s. s.id) (list_at h.sent w.0)) ≡ true =
      sym (is_some-found (λ s. s.id) x (list_at h.sent w.0)) ∙ w.2 in
      let other : app_at packets apps x ≡ w.0 =
      regular.delivered.own w.0 x (sent-inbox packets apps h regular w.0 x there) in
      let own : app_at packets apps x ≡ a = regular.delivered.own a x inbox in
      subst (λ b. is_in x (map (λ s. s.id) (list_at h.sent b)) ≡ true) (sym other ∙ own) there

  pub of-reply : (a x : ℕ) → is_in x (map (λ s. s.id) (list_at h.sent a)) ≡ true
      → is_some (first_reply_to h x) ≡ true
  of-reply a x e =
      at-first (found (λ s. s.id) x) [] h.sent a
      (within (λ list. is_in x (map (λ s. s.id) list)) [] h.sent a refl e)
      (is_some-found (λ s. s.id) x (list_at h.sent a) ∙ e)

  abbrev ends : ℕ → Type 0
  ends x = has_ended h x ≡ true

  arrived-at : (x : ℕ) → has_arrived h x ≡ true → x < length h.arrivals
  arrived-at x e =
      let w = place-index x (map (λ a. a.id) h.arrivals) e in
      let l : w.0 < length h.arrivals = omega (arith, w.1, length-map h.arrivals (λ a. a.id)) in
      let k : (get_or h.arrivals w.0 no_arrival).id ≡ w.0 =
      id-at h.arrivals w.0 regular.arrived.numbered l in
      let same : x ≡ w.0 =
      sym w.2 ∙ get_or-map (λ a. a.id) h.arrivals w.0 no_arrival 0 l ∙ k in
      omega (arith, same, l)

  at-arrived : (x : ℕ) → x < length h.arrivals → has_arrived h x ≡ true
  at-arrived x l =
      let l' : x < length (map (λ a. a.id) h.arrivals) =
      omega (arith, l, length-map h.arrivals (λ a. a.id)) in
      let e : get_or (map (λ a. a.id) h.arrivals) x 0 ≡ x =
      get_or-map (λ a. a.id) h.arrivals x no_arrival 0 l
      ∙ id-at h.arrivals x regular.arrived.numbered l in
      subst (λ y. is_in y (map (λ a. a.id) h.arrivals) ≡ true) e
      (in-index (map (λ a. a.id) h.arrivals) x l')

  in-inbox : (x : ℕ) → ends x → is_some (inbox_place_of h x) ≡ true
      → (is_some (first_reply_to h x) && is_some (place_in x h.port)) ≡ true
  in-inbox x e t =
      sym (ap (λ b. if b then is_some (first_reply_to h x) && is_some (place_in x h.port)
      else is_some (first_some (drop_in x) h.lanes)) t) ∙ e

  was-dropped : (x : ℕ) → ends x → is_some (inbox_place_of h x) ≡ false
      → is_some (first_some (drop_in x) h.lanes) ≡ true
  was-dropped x e f =
      sym (ap (λ b. if b then is_some (first_reply_to h x) && is_some (place_in x h.port)
      else is_some (first_some (drop_in x) h.lanes)) f) ∙ e

  pub swept-to : ((x : ℕ) → x < length h.arrivals → ends x) → All IsDone h.lanes
      → All IsDone h.tx_lanes → IsSwept h
  swept-to all lanes tx_lanes = record {
    ended = λ x e. let t = all x (arrived-at x e) in
        elim (cases_Bool (is_some (inbox_place_of h x))) [
          | inl i ↦ inl (inbox-of x i)
          | inr n ↦ inr (drop-of x (was-dropped x t n))
        ];
    lanes = lanes;
    tx_lanes = tx_lanes;
    sent = λ a x e. let i = of-inbox a x e in
        let t = in-inbox x (all x (arrived-inbox packets apps h regular a x e)) i in
        reply-of a x e (and_parts _ _ t).0;
    shipped = λ a x e. let i = of-inbox a x e in
        let t = in-inbox x (all x (arrived-inbox packets apps h regular a x e)) i in
        (and_parts _ _ t).1;
  }

  pub swept-from : IsSwept h → (x : ℕ) → x < length h.arrivals → ends x
  swept-from s x l = elim (cases_Bool (is_some (inbox_place_of h x))) [
    | inl i ↦
        let w = inbox-of x i in
        let r : is_some (first_reply_to h x) ≡ true = of-reply w.0 x (s.sent w.0 x w.1) in
        let p : is_some (place_in x h.port) ≡ true = s.shipped w.0 x w.1 in
        rw (i, r, p) refl
    | inr n ↦ elim (s.ended x (at-arrived x l)) [
      | inl w ↦ let i = of-inbox w.0 x w.1 in absurd (cc)
      | inr w ↦ let d = of-drop w.0 x w.1 in rw (n, d) refl
    ]
  ]

-- whether a lane is done
pub done-to : (lane : LaneList) → is_done lane ≡ true → IsDone lane
done-to lane e =
    let all = and_parts _ _ e in
    let two = and_parts _ _ all.0 in
    record {
      pulled = eqb-true lane.pulled (length lane.accepted) two.0;
      delivered = eqb-true lane.delivered (length lane.accepted) two.1;
      retired = eqb-true lane.retired (length lane.accepted) all.1;
    }

pub done-from : (lane : LaneList) → IsDone lane → is_done lane ≡ true
done-from lane d = rw (
  eq-eqb lane.pulled (length lane.accepted) d.pulled,
  eq-eqb lane.delivered (length lane.accepted) d.delivered,
  eq-eqb lane.retired (length lane.accepted) d.retired,
) refl

pub lanes-to : (lanes : List LaneList) → list_all is_done lanes ≡ true → All IsDone lanes
lanes-to lanes e k d l =
    done-to (get_or lanes k d) (AllPass-from_list_all is_done lanes e k d l)

pub lanes-from : (lanes : List LaneList) → All IsDone lanes → list_all is_done lanes ≡ true
lanes-from lanes h =
    list_all-from_AllPass is_done lanes (λ k d l. done-from (get_or lanes k d) (h k d l))

-- whether all packets that arrived have ended, by their arrivals
pub ended-to : (h : History)
    → map (λ a. a.id) h.arrivals ≡ range_with_len 0 (length h.arrivals)
    → list_all (λ a. has_ended h a.id) h.arrivals ≡ true
    → (x : ℕ) → x < length h.arrivals → has_ended h x ≡ true
ended-to h n e x l =
    ap (has_ended h) (sym (id-at h.arrivals x n l))
    ∙ AllPass-from_list_all (λ (a : Arrival). has_ended h a.id) h.arrivals e x no_arrival l

pub ended-from : (h : History)
    → map (λ a. a.id) h.arrivals ≡ range_with_len 0 (length h.arrivals)
    → ((x : ℕ) → x < length h.arrivals → has_ended h x ≡ true)
    → list_all (λ a. has_ended h a.id) h.arrivals ≡ true
ended-from h n all =
    list_all-from_AllPass (λ (a : Arrival). has_ended h a.id) h.arrivals (λ x d l.
    ap (λ (a : Arrival). has_ended h a.id) (get_or_default h.arrivals x d no_arrival l)
    ∙ ap (has_ended h) (id-at h.arrivals x n l) ∙ all x l)

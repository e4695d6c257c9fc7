-- A packet of a regular history stands at one place, and that is the one which its line shows.
use Rattle.std.proofs.Common.{ℕ, ◌+◌, ◌<◌, ◌≡◌, Bool, true, false, List, [], ◌++◌, Option, Some}
use Rattle.std.proofs.Common.{None, length, refl, ap, ◌∙◌, sym, subst, arith, inl, inr, get_or}
use Rattle.std.specs.List.{position}
use Rattle.std.specs.Prelude.{if◌then◌else◌}
use Rattle.std.proofs.Math.ListN.{get_or-append, get_or-eq_default}
use Rattle.std.proofs.lemmas.Bool.{cases_lt}
use Rattle.std.proofs.lemmas.List.{get_or-append-add, length-append, length-map}
use Rattle.std.proofs.lemmas.List.Quantifiers.{position-Some}
use Rattle.std.proofs.lemmas.Option.{same_Some}
use Rattle.steer_base.specs.Orders.{Apart}
use Rattle.steer_base.specs.declared.packet.Packet.{Packet}
use Rattle.history.specs.Finding.{is_among, is_in}
use Rattle.history.specs.Lists.{accepted_lists, drop_ids, dropped_lists, lane_at}
use Rattle.history.specs.Lists.{no_lane}
use Rattle.history.specs.Places.{AreInOnePlace, place_by, place_of, was_taken}
use Rattle.history.specs.Regular.{Regular}
use Rattle.history.specs.declared.history.History.{History}
use Rattle.history.specs.declared.lane_list.LaneList.{LaneList}
use Rattle.history.specs.declared.place.Place.{Place}
use Rattle.history.specs.declared.place.Place.TheVariants.{Backlog, Dropped, Hand}
use Rattle.history.specs.declared.place.Place.TheVariants.{Inbox, Poller, Ring}
use Rattle.history.proofs.BoundLemmas.{list-accepted, list-dropped}
use Rattle.history.proofs.FindingLemmas.{is_in-among}
use Rattle.history.proofs.OwnLemmas.{own-position, not-true}
use Rattle.history.proofs.RegularLemmas.{lane-accepted, lane-dropped}
use Rattle.history.proofs.SamePlaces.{place-index}
use Rattle.headline.specs.Places.{IsInNoInbox, IsAtPlace, IsAtOnePlace, WasNotPut}
use Rattle.headline.specs.Places.{is_in_inbox, was_accepted, was_dropped_by, was_pulled}

-- ---- the one item that passes

module _ {B : Type 0} (p : B → Bool) (d : B) (default : p d ≡ false) (xs : List B)
    (only : (c k : ℕ) → p (get_or xs c d) ≡ true → p (get_or xs k d) ≡ true → c ≡ k) where
  first-at : (c : ℕ) → p (get_or xs c d) ≡ true → position p xs ≡ Some c
  first-at c here =
      own-position p d xs (Some c) default (λ k t. ap (λ n. Some n) (only c k here t))
      ∙ ap (λ b. if b then Some c else None) here

  first-none : ((k : ℕ) → p (get_or xs k d) ≡ false) → position p xs ≡ None
  first-none never =
      own-position p d xs None default
      (λ k t. absurd (let f : true ≡ false = sym t ∙ never k in cc))

  at-first : (c : ℕ) → position p xs ≡ Some c → p (get_or xs c d) ≡ true
  at-first c is = (position-Some p xs c d is).1

  nowhere : position p xs ≡ None → (k : ℕ) → p (get_or xs k d) ≡ false
  nowhere none k =
      not-true (p (get_or xs k d))
      (λ t. let f : Some k ≡ None = sym (first-at k t) ∙ none in cc)

-- ---- a packet of a regular history

module _ (packets : List Packet) (apps : ℕ) (h : History) (regular : Regular packets apps h)
    (once : AreInOnePlace h) (x : ℕ) where
  pulled-accepted : (c : ℕ) → was_pulled h c x ≡ true
      → was_accepted h c x ≡ true
  pulled-accepted c t = is_in-among (lane_at h.lanes c).pulled x (lane_at h.lanes c).accepted t

  one-accepted : (c k : ℕ) → was_accepted h c x ≡ true
      → was_accepted h k x ≡ true → c ≡ k
  one-accepted c k s t =
      same_Some c k (sym (lane-accepted packets apps h regular c x s)
      ∙ lane-accepted packets apps h regular k x t)

  one-dropped : (c k : ℕ) → was_dropped_by h c x ≡ true
      → was_dropped_by h k x ≡ true → c ≡ k
  one-dropped c k s t =
      same_Some c k (sym (lane-dropped packets apps h regular c x s)
      ∙ lane-dropped packets apps h regular k x t)

  one-pulled : (c k : ℕ) → was_pulled h c x ≡ true
      → was_pulled h k x ≡ true → c ≡ k
  one-pulled c k s t = one-accepted c k (pulled-accepted c s) (pulled-accepted k t)

  one-inbox : (a b : ℕ) → is_in_inbox h a x ≡ true
      → is_in_inbox h b x ≡ true → a ≡ b
  one-inbox a b s t = sym (regular.delivered.own a x s) ∙ regular.delivered.own b x t

  -- lists that are apart do not both have it
  both : (lists : List (List ℕ)) (p q : ℕ) → Apart lists → p < length lists → q < length lists
      → is_in x (get_or lists p []) ≡ true → is_in x (get_or lists q []) ≡ true → p ≡ q
  both lists p q apart lp lq s t =
      let i = place-index x (get_or lists p []) s in
      let j = place-index x (get_or lists q []) t in
      (apart p q i.0 j.0 lp lq i.1 j.1 (i.2 ∙ sym j.2)).0

  in-lanes : (c : ℕ) → was_accepted h c x ≡ true → c < length h.lanes
  in-lanes c s =
      elim (cases_lt c (length h.lanes)) [
        | inl lt ↦ lt
        | inr le ↦ (
            let e : was_accepted h c x ≡ false =
            ap (λ (lane : LaneList). is_in x lane.accepted)
            (get_or-eq_default h.lanes no_lane le) in
            absurd (let f : true ≡ false = sym s ∙ e in cc))
      ]

  not-dropped : (c k : ℕ) → was_accepted h c x ≡ true
      → was_dropped_by h k x ≡ false
  not-dropped c k s =
      not-true (was_dropped_by h k x) (λ t. (
      let same : c ≡ k =
      same_Some c k (sym (lane-accepted packets apps h regular c x s)
      ∙ lane-dropped packets apps h regular k x t) in
      let within = in-lanes c s in
      let front : List (List ℕ) = accepted_lists h.lanes in
      let back : List (List ℕ) = dropped_lists h.lanes in
      let fl : length front ≡ length h.lanes = length-map h.lanes (λ lane. lane.accepted) in
      let bl : length back ≡ length h.lanes = length-map h.lanes drop_ids in
      let all : length (front ++ back) ≡ length front + length back =
      length-append front back in
      let left : get_or (front ++ back) c [] ≡ (lane_at h.lanes c).accepted =
      get_or-append front back [] c (omega (arith, within, fl)) ∙ list-accepted h.lanes c in
      let right : get_or (front ++ back) (length front + k) [] ≡ drop_ids (lane_at h.lanes k) =
      get_or-append-add front back k [] ∙ list-dropped h.lanes k in
      let e : c ≡ length front + k =
      both (front ++ back) c (length front + k) once.lanes
      (omega (arith, within, fl, bl, all)) (omega (arith, within, same, fl, bl, all))
      (ap (is_in x) left ∙ s) (ap (is_in x) right ∙ t) in
      omega (arith, e, within, fl)))

  not-accepted : (c k : ℕ) → was_dropped_by h c x ≡ true
      → was_accepted h k x ≡ false
  not-accepted c k t =
      not-true (was_accepted h k x)
      (λ s. let f : true ≡ false = sym t ∙ not-dropped k c s in cc)

  -- ---- what the place is found by

  abbrev dropped : Option ℕ
  dropped = position (λ lane. is_in x (drop_ids lane)) h.lanes

  abbrev inbox : Option ℕ
  inbox = position (is_in x) h.inboxes

  abbrev pulled : Option ℕ
  pulled = position (λ lane. is_among lane.pulled x lane.accepted) h.lanes

  abbrev accepted : Option ℕ
  accepted = position (λ lane. is_in x lane.accepted) h.lanes

  dropped-at : (c : ℕ) → was_dropped_by h c x ≡ true → dropped ≡ Some c
  dropped-at = first-at (λ lane. is_in x (drop_ids lane)) no_lane refl h.lanes one-dropped

  dropped-none : ((c : ℕ) → was_dropped_by h c x ≡ false) → dropped ≡ None
  dropped-none = first-none (λ lane. is_in x (drop_ids lane)) no_lane refl h.lanes one-dropped

  inbox-at : (a : ℕ) → is_in_inbox h a x ≡ true → inbox ≡ Some a
  inbox-at = first-at (is_in x) [] refl h.inboxes one-inbox

  inbox-none : IsInNoInbox h x → inbox ≡ None
  inbox-none = first-none (is_in x) [] refl h.inboxes one-inbox

  pulled-at : (c : ℕ) → was_pulled h c x ≡ true
      → pulled ≡ Some c
  pulled-at =
      first-at (λ lane. is_among lane.pulled x lane.accepted) no_lane refl h.lanes one-pulled

  pulled-none : ((c : ℕ) → was_pulled h c x ≡ false)
      → pulled ≡ None
  pulled-none =
      first-none (λ lane. is_among lane.pulled x lane.accepted) no_lane refl h.lanes one-pulled

  accepted-at : (c : ℕ) → was_accepted h c x ≡ true → accepted ≡ Some c
  accepted-at = first-at (λ lane. is_in x lane.accepted) no_lane refl h.lanes one-accepted

  accepted-none : ((c : ℕ) → was_accepted h c x ≡ false) → accepted ≡ None
  accepted-none = first-none (λ lane. is_in x lane.accepted) no_lane refl h.lanes one-accepted

  -- ---- where it stands is its place

  place-is : (d i p a : Option ℕ) (t : Bool) → dropped ≡ d → inbox ≡ i → pulled ≡ p
      → accepted ≡ a → was_taken h x ≡ t → place_of h x ≡ place_by d i p a t
  place-is d i p a t ed ei ep ea et = rw (ed, ei, ep, ea, et) refl

  unplaced : (t : Bool) → was_taken h x ≡ t → WasNotPut h x
      → place_of h x ≡ place_by None None None None t
  unplaced t is none =
      place-is None None None None t (dropped-none (λ c. (none c).1))
      (inbox-none (λ a. not-true (is_in_inbox h a x) (λ s. (
      let w = regular.delivered.accepted a x s in
      let f : true ≡ false = sym w.1 ∙ (none w.0).0 in cc))))
      (pulled-none (λ c. not-true (was_pulled h c x)
      (λ s. let f : true ≡ false = sym (pulled-accepted c s) ∙ (none c).0 in cc)))
      (accepted-none (λ c. (none c).0)) is

  place-from : (place : Place) → IsAtPlace h x place → place_of h x ≡ place
  place-from Ring (is, none) = unplaced false is none
  place-from Poller (is, none) = unplaced true is none
  place-from (Backlog c) (is, waits, none) =
      place-is None None None (Some c) (was_taken h x) (dropped-none (λ k. not-dropped c k is))
      (inbox-none none)
      (pulled-none (λ k. not-true (was_pulled h k x)
      (λ s. (
      let same : k ≡ c = one-accepted k c (pulled-accepted k s) is in
      let t : was_pulled h c x ≡ true =
      subst (λ n. was_pulled h n x ≡ true) same s
      in
      let f : true ≡ false = sym t ∙ waits in cc))))
      (accepted-at c is) refl
  place-from (Hand c) (is, none) =
      place-is None None (Some c) accepted (was_taken h x)
      (dropped-none (λ k. not-dropped c k (pulled-accepted c is))) (inbox-none none)
      (pulled-at c is) refl refl
  place-from (Inbox a) is =
      let w = regular.delivered.accepted a x is in
      place-is None (Some a) pulled accepted (was_taken h x)
      (dropped-none (λ k. not-dropped w.0 k w.1)) (inbox-at a is) refl refl refl
  place-from (Dropped c) is =
      place-is (Some c) inbox pulled accepted (was_taken h x) (dropped-at c is) refl refl refl refl

  -- ---- and it stands at its place

  no-inbox : inbox ≡ None → IsInNoInbox h x
  no-inbox = nowhere (is_in x) [] refl h.inboxes one-inbox

  not-put : dropped ≡ None → accepted ≡ None → WasNotPut h x
  not-put d a c = (
    nowhere (λ lane. is_in x lane.accepted) no_lane refl h.lanes one-accepted a c,
    nowhere (λ lane. is_in x (drop_ids lane)) no_lane refl h.lanes one-dropped d c,
  )

  stands-by : (d i p a : Option ℕ) (t : Bool) → dropped ≡ d → inbox ≡ i → pulled ≡ p
      → accepted ≡ a → was_taken h x ≡ t → IsAtPlace h x (place_by d i p a t)
  stands-by (Some c) i p a t ed ei ep ea et =
      at-first (λ lane. is_in x (drop_ids lane)) no_lane refl h.lanes one-dropped c ed
  stands-by None (Some a) p b t ed ei ep ea et =
      at-first (is_in x) [] refl h.inboxes one-inbox a ei
  stands-by None None (Some c) a t ed ei ep ea et = (
    at-first (λ lane. is_among lane.pulled x lane.accepted) no_lane refl h.lanes one-pulled c ep,
    no-inbox ei,
  )
  stands-by None None None (Some c) t ed ei ep ea et = (
    at-first (λ lane. is_in x lane.accepted) no_lane refl h.lanes one-accepted c ea,
    nowhere (λ lane. is_among lane.pulled x lane.accepted) no_lane refl h.lanes one-pulled ep c,
    no-inbox ei,
  )
  stands-by None None None None true ed ei ep ea et = (et, not-put ed ea)
  stands-by None None None None false ed ei ep ea et = (et, not-put ed ea)

  pub stands-at_one : IsAtOnePlace h x
  stands-at_one place = (
    place-from place,
    λ is. subst (IsAtPlace h x) is
        (stands-by dropped inbox pulled accepted (was_taken h x) refl refl refl refl refl),
  )

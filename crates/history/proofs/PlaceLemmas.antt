-- The place of a packet of a regular history: at the lane of its choice, or in the inbox of its
-- application.
use Rattle.std.proofs.Common.{ℕ, ◌<◌, ◌≤◌, ◌≡◌, Bool, true, false, List, [], ◌∷◌, Option, Some}
use Rattle.std.proofs.Common.{None, length, take, refl, ap, ◌∙◌, sym, arith, suc, zero, inl, inr}
use Rattle.std.proofs.Common.{get_or}
use Rattle.std.specs.Prelude.{◌==◌, nat_lt, nat_le, if◌then◌else◌}
use Rattle.std.specs.List.{position}
use Rattle.std.specs.Option.{option_map, option_and, option_and_then, is_some}
use Rattle.std.proofs.Math.ListN.{get_or-eq_default}
use Rattle.std.proofs.lemmas.Bool.{cases_Bool, cases_eq, cases_lt, eq-eqb, ne_eqb}
use Rattle.steer_base.specs.Entries.{place_in}
use Rattle.steer_base.specs.declared.packet.Packet.{Packet}
use Rattle.steer_base.specs.declared.put.LaneDrop.{LaneDrop}
use Rattle.history.specs.Finding.{is_in, is_among, found, first_some}
use Rattle.history.specs.Known.{pulled_lane}
use Rattle.history.specs.Lines.{accepted_place, choice_of, drop_in, dropped_as, inbox_place_of}
use Rattle.history.specs.Lists.{app_at, drop_ids, lane_at, list_at, no_lane}
use Rattle.history.specs.Places.{IsInReach, place_by, place_of, was_taken}
use Rattle.history.specs.Regular.{Regular}
use Rattle.history.specs.declared.history.History.{History}
use Rattle.history.specs.declared.lane_list.LaneList.{LaneList}
use Rattle.history.proofs.FindingLemmas.{is_in-here, is_in-past, is_in-among}
use Rattle.history.proofs.OwnLemmas.{own-first, own-position}
use Rattle.history.proofs.RegularLemmas.{is_some-found, lane-accepted, lane-dropped}

-- what is found has a place
fallen-some : (o : Option LaneDrop) (p : Option ℕ) → is_some o ≡ is_some p
    → is_some (option_and_then (λ d. option_map (dropped_as d) p) o) ≡ is_some p
fallen-some None None e = refl
fallen-some None (Some n) e = absurd (cc)
fallen-some (Some d) None e = refl
fallen-some (Some d) (Some n) e = refl

pub is_some-drop_in : (x : ℕ) (lane : LaneList) → is_some (drop_in x lane) ≡ is_in x (drop_ids lane)
is_some-drop_in x lane = fallen-some (found (λ d. d.id) x lane.drops) (place_in x (drop_ids lane))
    (is_some-found (λ d. d.id) x lane.drops)

-- the own number, where the own one has something, is that of the first that passes
module _ {B T : Type 0} (look : B → Option T) (p : B → Bool) (d : B) (same : (b : B)
    → is_some (look b) ≡ p b) (none : look d ≡ None) where
  own-some : (xs : List B) (o : Option ℕ) → ((i : ℕ) → p (get_or xs i d) ≡ true → o ≡ Some i)
      → option_and (first_some look xs) o ≡ position p xs
  own-some xs o h =
      let f = own-first look d xs o none (λ i e. h i (sym (same (get_or xs i d)) ∙ e)) in
      let g = own-position p d xs o (sym (same d) ∙ ap is_some none) h in
      let m : option_and (option_and_then (λ c. look (get_or xs c d)) o) o ≡ option_and_then
      (λ c. if p (get_or xs c d) then Some c else None) o =
      elim o as (λ o. option_and (option_and_then (λ c. look (get_or xs c d)) o) o ≡ option_and_then
      (λ c. if p (get_or xs c d) then Some c else None) o) [
        | None ↦ refl
        | Some c ↦ rw (← same (get_or xs c d)) (elim (look (get_or xs c d)) as
            (λ q. option_and q (Some c) ≡ (if is_some q then Some c else None)) [
              | None ↦ refl
              | Some a ↦ refl
            ])
      ] in
      ap (λ q. option_and q o) f ∙ m ∙ sym g

abbrev pub within : ℕ → Option ℕ → Bool
within n None = false
within n (Some k) = nat_le k n

within-suc : (n : ℕ) (o : Option ℕ) → within (suc n) (option_map suc o) ≡ within n o
within-suc n None = refl
within-suc n (Some k) = grind arith

within-zero : (o : Option ℕ) → within zero (option_map suc o) ≡ false
within-zero None = refl
within-zero (Some k) = grind arith

-- a packet is among the first of a list exactly where its place is at most so much
pub among-place : (x n : ℕ) (xs : List ℕ) → is_among n x xs ≡ within n (place_in x xs)
among-place x zero [] = refl
among-place x (suc n) [] = refl
among-place x zero (y ∷ ys) = elim (cases_Bool (x == y)) [
  | inl t ↦ rw t (grind arith)
  | inr t ↦ rw t (sym (within-zero (place_in x ys)))
]
among-place x (suc n) (y ∷ ys) =
    elim (cases_eq x y) [
      | inl e ↦ let t : (x == y) ≡ true = eq-eqb x y e in is_in-here x y (take n ys) e
          ∙ (rw t (grind arith))
      | inr ne ↦
          let t : (x == y) ≡ false = ne_eqb x y ne in
          is_in-past x y (take n ys) ne ∙ among-place x n ys ∙ sym (within-suc n (place_in x ys))
          ∙ (rw t refl)
    ]

by-place : (lanes : List LaneList) (c : ℕ) (place : Option ℕ) → c < length lanes
    → pulled_lane lanes (Some c) place ≡ (if within (lane_at lanes c).pulled place then Some c else
    None)
by-place lanes c None l = refl
by-place lanes c (Some n) l = let t : nat_lt c (length lanes) ≡ true = grind arith in rw t refl

by-own : (lanes : List LaneList) (x : ℕ) (o : Option ℕ)
    → pulled_lane lanes o (option_and_then (λ c. place_in x (lane_at lanes c).accepted) o)
    ≡ option_and_then (λ c. if is_among (lane_at lanes c).pulled x
    (lane_at lanes c).accepted then Some c else None) o
by-own lanes x None = refl
by-own lanes x (Some c) =
    elim (cases_lt c (length lanes)) [
      | inl l ↦
          by-place lanes c (place_in x (lane_at lanes c).accepted) l
          ∙ ap (λ b. if b then Some c else None)
          (sym (among-place x (lane_at lanes c).pulled (lane_at lanes c).accepted))
      | inr l ↦ let e : lane_at lanes c ≡ no_lane = get_or-eq_default lanes no_lane l in rw e refl
    ]

-- The own lane of a packet is that of its choice.
module _ (packets : List Packet) (apps : ℕ) (h : History) (regular : Regular packets apps h)
    (x : ℕ) where
  abbrev lane_of : Option ℕ
  lane_of = option_map (λ c. c.lane) (choice_of h x)

  pub dropped-at : option_and (first_some (drop_in x) h.lanes) lane_of ≡ position
      (λ lane. is_in x (drop_ids lane)) h.lanes
  dropped-at =
      own-some (drop_in x) (λ lane. is_in x (drop_ids lane)) no_lane
      (is_some-drop_in x) refl h.lanes lane_of
      (λ c s. lane-dropped packets apps h regular c x s)

  pub accepted-at : option_and (accepted_place h.lanes x) lane_of ≡ position
      (λ lane. is_in x lane.accepted) h.lanes
  accepted-at =
      own-some (λ lane. place_in x lane.accepted) (λ lane. is_in x lane.accepted) no_lane
      (λ lane. refl) refl h.lanes lane_of
      (λ c s. lane-accepted packets apps h regular c x s)

  pub pulled-at : pulled_lane h.lanes lane_of (accepted_place h.lanes x) ≡ position
      (λ lane. is_among lane.pulled x lane.accepted) h.lanes
  pulled-at =
      ap (pulled_lane h.lanes lane_of) (own-first (λ lane. place_in x lane.accepted) no_lane h.lanes
      lane_of refl (λ c s. lane-accepted packets apps h regular c x s))
      ∙ by-own h.lanes x lane_of
      ∙ sym (own-position (λ lane. is_among lane.pulled x lane.accepted) no_lane h.lanes lane_of
      refl
      (λ c s. lane-accepted packets apps h regular c x (is_in-among (lane_at h.lanes c).pulled x
      (lane_at h.lanes c).accepted s)))

  pub inbox-at : option_and (inbox_place_of h x) (Some (app_at packets apps x)) ≡ position
      (is_in x) h.inboxes
  inbox-at = own-some (place_in x) (is_in x) [] (λ inbox. refl) refl h.inboxes
      (Some (app_at packets apps x)) (λ a s. ap (λ n. Some n) (regular.delivered.own a x s))

  pub place-known :
      place_by (option_and (first_some (drop_in x) h.lanes) lane_of)
      (option_and (inbox_place_of h x) (Some (app_at packets apps x)))
      (pulled_lane h.lanes lane_of (accepted_place h.lanes x))
      (option_and (accepted_place h.lanes x) lane_of) (was_taken h x)
      ≡ place_of h x
  place-known = rw (dropped-at, inbox-at, pulled-at, accepted-at) refl

  pub place-by : (lane : Option ℕ) (app : ℕ) (taken : Bool) → lane ≡ lane_of
      → app ≡ app_at packets apps x → taken ≡ was_taken h x
      → place_by (option_and (first_some (drop_in x) h.lanes) lane)
      (option_and (inbox_place_of h x) (Some app))
      (pulled_lane h.lanes lane (accepted_place h.lanes x))
      (option_and (accepted_place h.lanes x) lane) taken ≡ place_of h x
  place-by lane app taken l a t = rw (l, a, t) place-known

-- Few lanes and inboxes are in reach.
pub in-reach : (h : History) (x : ℕ) → length h.lanes ≤ 256 → length h.inboxes ≤ 256 → IsInReach h x
in-reach h x lanes inboxes = record {
  accepted = λ c s. elim (cases_lt c (length h.lanes)) [
    | inl l ↦ omega arith
    | inr l ↦ let e : is_in x (lane_at h.lanes c).accepted ≡ false =
        ap (λ lane. is_in x lane.accepted) (get_or-eq_default h.lanes no_lane l) in absurd (cc)
  ];
  dropped = λ c s. elim (cases_lt c (length h.lanes)) [
    | inl l ↦ omega arith
    | inr l ↦ let e : is_in x (drop_ids (lane_at h.lanes c)) ≡ false =
        ap (λ lane. is_in x (drop_ids lane)) (get_or-eq_default h.lanes no_lane l) in absurd (cc)
  ];
  inbox = λ a s. elim (cases_lt a (length h.inboxes)) [
    | inl l ↦ omega arith
    | inr l ↦ let e : is_in x (list_at h.inboxes a) ≡ false =
        ap (is_in x) (get_or-eq_default h.inboxes [] l) in absurd (cc)
  ];
}

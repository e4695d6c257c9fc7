-- The drops of a lane, one after the other.
use Rattle.std.proofs.Common.{ℕ, zero, suc, ◌≡◌, ◌<◌, ◌≤◌, ◌+◌, ◌++◌, true, List, []}
use Rattle.std.proofs.Common.{◌∷◌, Option, Some, None, length, refl, ap, ◌∙◌, sym, arith, subst}
use Rattle.std.proofs.Common.{get_or, take, slice_get, inl, inr}
use Rattle.std.proofs.Common.{◌⊎◌, length-append}
use Rattle.std.specs.Prelude.{nat_le}
use Rattle.std.specs.List.{list_all}
use Rattle.std.specs.Option.{option_map}
use Rattle.std.proofs.Math.ListN.{get_or-append, get_or-eq_default}
use Rattle.std.proofs.lemmas.Bool.{cases_Bool, cases_eq, cases_lt}
use Rattle.std.proofs.lemmas.List.{get_or-append-add, length-map}
use Rattle.std.proofs.lemmas.Option.{slice_get_read}
use Rattle.steer_base.specs.Entries.{place_in}
use Rattle.steer_base.specs.Lanes.{LaneLists}
use Rattle.steer_base.specs.Orders.{Apart}
use Rattle.steer_base.specs.Sets.{has}
use Rattle.history.specs.Finding.{Once, is_in}
use Rattle.history.specs.Lists.{accepted_lists, drop_ids, dropped_lists, lane_at, list_at}
use Rattle.history.specs.Lists.{no_lane}
use Rattle.history.specs.declared.history.History.{History}
use Rattle.history.proofs.BoundLemmas.{at-most, list-accepted, list-dropped, once-accepted}
use Rattle.history.proofs.BoundLemmas.{once-dropped}
use Rattle.history.proofs.FindingLemmas.{is_in-here, is_in-past}
use Rattle.history.proofs.SamePlaces.{Once-cons, Once-head, Once-tail, no_place, place-here}
use Rattle.history.proofs.SamePlaces.{place-index, place-past}
use Rattle.std.proofs.lemmas.List.{take_more}
use Rattle.std.proofs.lemmas.List.Sums.{list_all-from_AllPass}
use Rattle.steer_base.specs.Drops.{bucket_of}
use Rattle.steer_base.specs.declared.put.LaneDrop.{LaneDrop}
use Rattle.backlog.specs.Offers.{AllExplained, AreOffers}
use Rattle.backlog.proofs.ExplainedLemmas.{AreOffers-put}
use Rattle.history.specs.declared.lane_list.LaneList.{LaneList}
use Rattle.steer_model.specs.Good.Drops.{DropsRise, as_lane}
use Rattle.steer_model.specs.Good.Inputs.{Input, setup_in}
use Rattle.steer_model.specs.State.Setup.{packet_hash}
use Rattle.good_check.specs.Drops.{is_within, limited_lane, offered}

-- one packet more was accepted after these offers
pub offered-accepted : (hash : ℕ → Option ℕ) (xs : List ℕ) (n m : ℕ) (drops : List LaneDrop)
    (offers : List (Option ℕ)) → n < length xs → m ≡ n + 1
    → AreOffers hash (offered (take n xs) drops offers)
    → AreOffers hash (offered (take m xs) drops (offers ++ bucket_of (hash (get_or xs n 0)) ∷ []))
offered-accepted hash xs n m drops offers l e h =
    let put = AreOffers-put hash (offered (take n xs) drops offers) (get_or xs n 0) None h in
    subst (λ ys. AreOffers hash (offered ys drops
    (offers ++ bucket_of (hash (get_or xs n 0)) ∷ [])))
    (sym (ap (λ k. take k xs) e ∙ take_more xs n 0 l)) put

-- a drop more came after these offers
pub offered-dropped : (hash : ℕ → Option ℕ) (xs : List ℕ) (n : ℕ) (drops : List LaneDrop) (k j : ℕ)
    (d : LaneDrop) (offers : List (Option ℕ)) → k < length drops → j ≡ k + 1
    → get_or drops k d ≡ d → length (take n xs) ≡ d.accepted
    → AreOffers hash (offered (take n xs) (take k drops) offers)
    → AreOffers hash (offered (take n xs) (take j drops) (offers ++ bucket_of (hash d.id) ∷ []))
offered-dropped hash xs n drops k j d offers l e is count h =
    let lane = record (offered (take n xs) (take k drops) offers) { pulled = d.pulled } in
    let h' : AreOffers hash lane = record { buckets = h.buckets; counts = h.counts } in
    let put = AreOffers-put hash lane d.id (Some d.cause) h' in
    let fell : record {
      id = d.id;
      accepted = length (take n xs);
      pulled = d.pulled;
      cause = d.cause;
    } ≡ d = λ i. record { id = d.id; accepted = count i; pulled = d.pulled; cause = d.cause } in
    let grown : take k drops ++ record {
      id = d.id;
      accepted = length (take n xs);
      pulled = d.pulled;
      cause = d.cause;
    } ∷ [] ≡ take j drops =
    ap (λ x. take k drops ++ x ∷ []) (fell ∙ sym is)
    ∙ sym (ap (λ m. take m drops) e ∙ take_more drops k d l) in
    subst (λ ys. AreOffers hash (offered (take n xs) ys (offers ++ bucket_of (hash d.id) ∷ [])))
    grown (record { buckets = put.buckets; counts = put.counts })

pub taken-count : (n : ℕ) (xs : List ℕ) → n ≤ length xs → length (take n xs) ≡ n
taken-count zero [] l = refl
taken-count zero (x ∷ xs) l = refl
taken-count (suc n) [] l = absurd (omega (arith, l))
taken-count (suc n) (x ∷ xs) l = ap suc (taken-count n xs (omega (arith, l)))

-- the item of a walk, where it stands in the list
pub same-place : {A : Type 0} (xs ys : List A) (k : ℕ) (d : A) → xs ≡ ys → k < length xs
    → d ≡ get_or xs k d → slice_get ys k ≡ Some d
same-place xs ys k d same l is =
    subst (λ zs. slice_get zs k ≡ Some d) same (slice_get_read xs (length xs) k d refl l is)

-- drops that rise are within their lane
pub within-from : (lane : LaneList) → DropsRise lane
    → list_all (is_within lane) lane.drops ≡ true
within-from lane r = list_all-from_AllPass (is_within lane) lane.drops (λ k d l.
    one (get_or lane.drops k d) (r.accepted k d l) (r.pulled k d l))
  where
    one : (d : LaneDrop) → d.accepted ≤ length lane.accepted → d.pulled ≤ lane.pulled
        → is_within lane d ≡ true
    one d a p =
        let s : nat_le d.accepted (length lane.accepted) ≡ true = grind arith in
        let t : nat_le d.pulled lane.pulled ≡ true = grind arith in rw (s, t) refl

lacks-append : (x : ℕ) (xs ys : List ℕ) → place_in x xs ≡ None → place_in x ys ≡ None
    → place_in x (xs ++ ys) ≡ None
lacks-append x [] ys a b = b
lacks-append x (y ∷ xs) ys a b = elim (cases_eq x y) [
  | inl e ↦ let f : place_in x (y ∷ xs) ≡ Some 1 = place-here x y xs e in absurd (cc)
  | inr ne ↦
      let rest : place_in x xs ≡ None = none-suc (place_in x xs) (sym (place-past x y xs ne) ∙ a) in
      place-past x y (xs ++ ys) ne ∙ ap (option_map suc) (lacks-append x xs ys rest b)
]
  where
    none-suc : (o : Option ℕ) → option_map suc o ≡ None → o ≡ None
    none-suc None e = refl
    none-suc (Some n) e = absurd (cc)

in-later : (z x : ℕ) (xs : List ℕ) → is_in z xs ≡ true → is_in z (x ∷ xs) ≡ true
in-later z x xs e = elim (cases_eq z x) [
  | inl s ↦ is_in-here z x xs s
  | inr ne ↦ is_in-past z x xs ne ∙ e
]

-- two lists without repeats and without a common member
once-append : (xs ys : List ℕ) → Once xs → Once ys
    → ((x : ℕ) → is_in x xs ≡ true → place_in x ys ≡ None) → Once (xs ++ ys)
once-append [] ys ox oy h = oy
once-append (x ∷ xs) ys ox oy h =
    Once-cons x (xs ++ ys)
    (lacks-append x xs ys (Once-head x xs ox) (h x (is_in-here x x xs refl)))
    (once-append xs ys (Once-tail x xs ox) oy (λ z e. h z (in-later z x xs e)))

in-either : (x : ℕ) (xs ys : List ℕ) → is_in x (xs ++ ys) ≡ true
    → (is_in x xs ≡ true) ⊎ (is_in x ys ≡ true)
in-either x [] ys e = inr e
in-either x (y ∷ xs) ys e = elim (cases_eq x y) [
  | inl s ↦ inl (is_in-here x y xs s)
  | inr ne ↦ elim (in-either x xs ys (sym (is_in-past x y (xs ++ ys) ne) ∙ e)) [
    | inl a ↦ inl (is_in-past x y xs ne ∙ a)
    | inr b ↦ inr b
  ]
]

-- the packets that a lane of a regular history accepted or dropped are few
module _ (lanes : List LaneList) (apart : Apart (accepted_lists lanes ++ dropped_lists lanes))
    (n c : ℕ) (inside : c < length lanes)
    (accepted : (x : ℕ) → is_in x (lane_at lanes c).accepted ≡ true → x < n)
    (dropped : (x : ℕ) → is_in x (drop_ids (lane_at lanes c)) ≡ true → x < n) where
  abbrev all : List (List ℕ)
  all = accepted_lists lanes ++ dropped_lists lanes

  first : list_at all c ≡ (lane_at lanes c).accepted
  first =
      get_or-append (accepted_lists lanes) (dropped_lists lanes) [] c
      (omega (arith, inside, length-map lanes (λ lane. lane.accepted)))
      ∙ list-accepted lanes c

  second : list_at all (length (accepted_lists lanes) + c) ≡ drop_ids (lane_at lanes c)
  second =
      get_or-append-add (accepted_lists lanes) (dropped_lists lanes) c []
      ∙ list-dropped lanes c

  abbrev both : List ℕ
  both = (lane_at lanes c).accepted ++ drop_ids (lane_at lanes c)

  apart-here : (x : ℕ) → is_in x (lane_at lanes c).accepted ≡ true
      → is_in x (drop_ids (lane_at lanes c)) ≡ true → ⊥
  apart-here x a d =
      let v = place-index x (lane_at lanes c).accepted a in
      let w = place-index x (drop_ids (lane_at lanes c)) d in
      let size : ℕ = length (accepted_lists lanes) in
      let many : size ≡ length lanes = length-map lanes (λ lane. lane.accepted) in
      let more : length all ≡ size + length (dropped_lists lanes) =
      length-append (accepted_lists lanes) (dropped_lists lanes) in
      let rest : length (dropped_lists lanes) ≡ length lanes = length-map lanes drop_ids in
      let same = apart c (size + c) v.0 w.0 (omega (arith, more, many, inside))
      (omega (arith, more, rest, inside))
      (subst (λ xs. v.0 < length xs) (sym first) v.1)
      (subst (λ xs. w.0 < length xs) (sym second) w.1)
      (ap (λ xs. get_or xs v.0 0) first ∙ v.2 ∙ sym w.2
      ∙ sym (ap (λ xs. get_or xs w.0 0) second)) in
      omega (arith, same.0, many, inside)

  disjoint : (x : ℕ) → is_in x (lane_at lanes c).accepted ≡ true
      → place_in x (drop_ids (lane_at lanes c)) ≡ None
  disjoint x a = elim (cases_Bool (is_in x (drop_ids (lane_at lanes c)))) [
    | inl t ↦ absurd (apart-here x a t)
    | inr f ↦ no_place x (drop_ids (lane_at lanes c)) f
  ]

  below : (x : ℕ) → is_in x both ≡ true → x < n
  below x e = elim (in-either x (lane_at lanes c).accepted (drop_ids (lane_at lanes c)) e) [
    | inl a ↦ accepted x a
    | inr d ↦ dropped x d
  ]

  pub lane-room : length (lane_at lanes c).accepted + length (lane_at lanes c).drops ≤ n
  lane-room =
      let l : length both ≤ n = at-most both n (once-append (lane_at lanes c).accepted
      (drop_ids (lane_at lanes c)) (once-accepted lanes apart c) (once-dropped lanes apart c)
      disjoint) below in
      omega (
        arith,
        l,
        length-append (lane_at lanes c).accepted (drop_ids (lane_at lanes c)),
        length-map (lane_at lanes c).drops (λ d. d.id),
      )

-- no lane has no drops
none-explained : (hash : ℕ → Option ℕ) (l : LaneLists) → l.drops ≡ [] → AllExplained hash l
none-explained hash l none k d e =
    let f : slice_get [] k ≡ Some d = ap (λ ds. slice_get ds k) (sym none) ∙ e in absurd (cc)

-- the causes that the clause asks for, lane by lane
pub causes-to : (i : Input) (h : History) → length h.lanes ≡ i.plan.cpus
    → ((c : ℕ) → c < i.plan.cpus → AllExplained (packet_hash (setup_in i))
    (limited_lane i.plan.backlog (has i.plan.limited c) (lane_at h.lanes c)))
    → (c : ℕ) → AllExplained (packet_hash (setup_in i)) (as_lane i h c)
causes-to i h e all c = elim (cases_lt c i.plan.cpus) [
  | inl l ↦ λ k d s. all c l k d s
  | inr l ↦ none-explained (packet_hash (setup_in i)) (as_lane i h c)
      (ap (λ lane. lane.drops) (get_or-eq_default h.lanes no_lane (omega (arith, e, l))))
]

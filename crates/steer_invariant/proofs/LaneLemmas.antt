-- The lanes of a sound hop as a history has them: their choices and their places.
use Rattle.std.proofs.Common.{ℕ, ◌≤◌, ◌<◌, ◌≡◌, true, List, [], ◌++◌, Some, map, length, refl, ap}
use Rattle.std.proofs.Common.{◌∙◌, sym, arith, get_or, inl, inr, subst}
use Rattle.std.specs.Prelude.{slice_index}
use Rattle.std.proofs.Math.ListN.{get_or-eq_default, length-map}
use Rattle.std.proofs.lemmas.Bool.{cases_lt}
use Rattle.std.proofs.lemmas.List.{get_or-map}
use Rattle.std.proofs.lemmas.List.FromFn.{get_or-map-range_with_len, length-map-range_with_len}
use Rattle.steer_base.specs.Orders.{Apart, IsPrefix}
use Rattle.hop_model.specs.Hop.{HopState, accepted_at, arrivals_of, choices_of, chosen_at}
use Rattle.hop_model.specs.Hop.{delivered_at, drops_at, fell_at, nobody, out_at, placed_of}
use Rattle.hop_model.specs.Hop.{pulled_at, retired_at}
use Rattle.hop_core.specs.Laws.{fallen}
use Rattle.hop_model.specs.Sound.{Puts, Sound}
use Rattle.hop_core.proofs.Apart.{HasPlaces-from}
use Rattle.history.specs.Finding.{is_among, is_in}
use Rattle.history.specs.Lines.{choice_in}
use Rattle.history.specs.Lists.{accepted_lists, drop_ids, dropped_lists, lane_at, no_lane}
use Rattle.history.specs.Regular.{HasChoice}
use Rattle.history.proofs.BoundLemmas.{in-index}
use Rattle.history.proofs.SamePlaces.{place-index, same_lists}
use Rattle.steer_model.specs.State.Machine.{lane_list, history_lanes}
use Rattle.steer_invariant.proofs.ListedLemmas.{found-at, is_among-at, prefix-by_items}

module _ (s : HopState) (h : Sound s) where
  -- ---- each lane at its number

  -- beyond its lanes a hop has nothing
  lane-beyond : (c : ℕ) → length s.bare.accepted ≤ c → lane_list s.bare c ≡ no_lane
  lane-beyond c l =
      let w = h.wide in
      let a : accepted_at s.bare c ≡ [] = get_or-eq_default s.bare.accepted [] l in
      let d : drops_at s.bare c ≡ [] =
      get_or-eq_default s.bare.drops [] (omega (arith, l, w.drops)) in
      let p : pulled_at s.bare c ≡ 0 =
      get_or-eq_default s.bare.pulled 0 (omega (arith, l, w.pulled)) in
      let e : delivered_at s.bare c ≡ 0 =
      get_or-eq_default s.bare.delivered 0 (omega (arith, l, w.delivered)) in
      let r : retired_at s.bare c ≡ 0 =
      get_or-eq_default s.bare.retired 0 (omega (arith, l, w.retired)) in
      rw (a, d, p, e, r) refl

  pub lists-long : length (history_lanes s.bare) ≡ length s.bare.accepted
  lists-long = length-map-range_with_len (lane_list s.bare) 0 (length s.bare.accepted)

  pub lane-is : (c : ℕ) → lane_at (history_lanes s.bare) c ≡ lane_list s.bare c
  lane-is c =
      elim (cases_lt c (length s.bare.accepted)) [
        | inl l ↦
            get_or-map-range_with_len (lane_list s.bare) 0 (length s.bare.accepted) c c no_lane l
            (omega arith)
        | inr l ↦
            get_or-eq_default (history_lanes s.bare) no_lane (omega (arith, l, lists-long))
            ∙ sym (lane-beyond c l)
      ]

  accepted-is : (c : ℕ) → (lane_at (history_lanes s.bare) c).accepted ≡ accepted_at s.bare c
  accepted-is c = ap (λ lane. lane.accepted) (lane-is c)

  pub fallen-is : (c : ℕ) → drop_ids (lane_at (history_lanes s.bare) c) ≡ fell_at s.bare c
  fallen-is c = ap drop_ids (lane-is c)

  all-accepted : accepted_lists (history_lanes s.bare) ≡ s.bare.accepted
  all-accepted =
      let lanes = history_lanes s.bare in
      let long : length (accepted_lists lanes) ≡ length s.bare.accepted =
      length-map lanes (λ lane. lane.accepted) ∙ lists-long in
      same_lists [] (accepted_lists lanes) s.bare.accepted long
      (λ i l. get_or-map (λ lane. lane.accepted) lanes i no_lane []
      (omega (arith, l, long, lists-long))
      ∙ accepted-is i)

  all-fallen : dropped_lists (history_lanes s.bare) ≡ fallen s.bare
  all-fallen =
      let w = h.wide in
      let lanes = history_lanes s.bare in
      let left : length (dropped_lists lanes) ≡ length s.bare.accepted =
      length-map lanes drop_ids ∙ lists-long in
      let right : length (fallen s.bare) ≡ length s.bare.accepted =
      length-map s.bare.drops (λ drops. map (λ d. d.id) drops) ∙ w.drops in
      same_lists [] (dropped_lists lanes) (fallen s.bare) (left ∙ sym right)
      (λ i l. get_or-map drop_ids lanes i no_lane [] (omega (arith, l, left, lists-long))
      ∙ fallen-is i
      ∙ sym (get_or-map (λ drops. map (λ d. d.id) drops) s.bare.drops i [] []
      (omega (arith, l, left, w.drops))))

  -- ---- choices

  -- the packets of a producer's choices are its first arrivals
  ids-at : (p i : ℕ) → i < length (choices_of s p)
      → get_or (map (λ c. c.id) (choices_of s p)) i 0 ≡ slice_index (arrivals_of s p) i
  ids-at p i l = get_or-map (λ c. c.id) (choices_of s p) i nobody 0 l ∙ h.hands.of_arrivals p i l

  pub chosen-first : (p : ℕ) → IsPrefix (map (λ c. c.id) (choices_of s p)) (arrivals_of s p)
  chosen-first p =
      let ids : List ℕ = map (λ c. c.id) (choices_of s p) in
      let long : length ids ≡ length (choices_of s p) = length-map (choices_of s p) (λ c. c.id) in
      let a = h.hands.chosen p in let b = h.hands.arrived p in
      prefix-by_items ids (arrivals_of s p) (omega (arith, long, a, b))
      (λ i l. ids-at p i (omega (arith, l, long)))

  -- no two choices of a producer are for one packet
  chosen-once : (p i : ℕ) → i < length (choices_of s p)
      → choice_in (chosen_at (choices_of s p) i).id (choices_of s p)
      ≡ Some (chosen_at (choices_of s p) i).choice
  chosen-once p i l =
      let a = h.hands.chosen p in let b = h.hands.arrived p in
      let f = found-at (λ c. c.id) (choices_of s p) i nobody l (λ k lt e.
      let same : slice_index (arrivals_of s p) k ≡ slice_index (arrivals_of s p) i =
      sym (h.hands.of_arrivals p k (omega (arith, lt, l))) ∙ e ∙ h.hands.of_arrivals p i l in
      let one = (h.once p p k i (omega (arith, lt, l, a, b)) (omega (arith, l, a, b)) same).1 in
      omega (arith, lt, one)) in
      rw f refl

  -- what was put to a lane has a choice of it
  put-choice : (lists : ℕ → List ℕ) (c x : ℕ) → Puts lists (choices_of s) (placed_of s)
      → is_in x (lists c) ≡ true → HasChoice s.choices x c
  put-choice lists c x puts is =
      let at = place-index x (lists c) is in
      let w = puts c at.0 at.1 in
      let a = h.hands.put w.0 in
      let l : w.1 < length (choices_of s w.0) = omega (arith, a, w.2) in
      let id : (chosen_at (choices_of s w.0) w.1).id ≡ x = w.3 ∙ at.2 in
      let found = ap (λ y. choice_in y (choices_of s w.0)) (sym id) ∙ chosen-once w.0 w.1 l in
      (w.0, (chosen_at (choices_of s w.0) w.1).choice, found, w.4)

  pub accepted-choice : (c x : ℕ) → is_in x (lane_at (history_lanes s.bare) c).accepted ≡ true
      → HasChoice s.choices x c
  accepted-choice c x is =
      put-choice (accepted_at s.bare) c x h.puts (sym (ap (is_in x) (accepted-is c)) ∙ is)

  pub fallen-choice : (c x : ℕ) → is_in x (drop_ids (lane_at (history_lanes s.bare) c)) ≡ true
      → HasChoice s.choices x c
  fallen-choice c x is =
      put-choice (fell_at s.bare) c x h.falls (sym (ap (is_in x) (fallen-is c)) ∙ is)

  -- ---- places

  pub all-apart : Apart (accepted_lists (history_lanes s.bare) ++ dropped_lists
      (history_lanes s.bare))
  all-apart =
      subst Apart (λ i. sym all-accepted i ++ sym all-fallen i) (HasPlaces-from s h).lanes

  pub accepted-apart : Apart (accepted_lists (history_lanes s.bare))
  accepted-apart =
      subst Apart (sym all-accepted) (λ p q i j pl ql ip jq e. h.places.once p q i j ip jq e)

  pub outs-apart : Apart s.bare.outs
  outs-apart = (HasPlaces-from s h).outs

  -- what is in an out lane was delivered by a lane
  pub delivered-by : (o x : ℕ) → is_in x (out_at s.bare o) ≡ true
      → (c : ℕ)
      × (is_among (lane_at (history_lanes s.bare) c).delivered x
      (lane_at (history_lanes s.bare) c).accepted ≡ true)
  delivered-by o x is =
      let at = place-index x (out_at s.bare o) is in
      let w = h.places.from o at.0 at.1 in
      let a = h.counts.delivered_first w.0 in let b = h.counts.pulled_first w.0 in
      let among : is_among (delivered_at s.bare w.0) (slice_index (accepted_at s.bare w.0) w.1)
      (accepted_at s.bare w.0) ≡ true =
      is_among-at (delivered_at s.bare w.0) (accepted_at s.bare w.0) w.1 w.2
      (omega (arith, w.2, a, b)) in
      let same = ap (λ y. is_among (delivered_at s.bare w.0) y (accepted_at s.bare w.0))
      (sym (w.3 ∙ at.2)) in
      (w.0, rw (lane-is w.0) (same ∙ among))

  pub accepted-by : (o x : ℕ) → is_in x (out_at s.bare o) ≡ true
      → (c : ℕ) × (is_in x (lane_at (history_lanes s.bare) c).accepted ≡ true)
  accepted-by o x is =
      let at = place-index x (out_at s.bare o) is in
      let w = h.places.from o at.0 at.1 in
      let a = h.counts.delivered_first w.0 in let b = h.counts.pulled_first w.0 in
      let same = ap (λ y. is_in y (accepted_at s.bare w.0)) (sym (w.3 ∙ at.2)) in (
        w.0,
        ap (is_in x) (accepted-is w.0) ∙ same
            ∙ in-index (accepted_at s.bare w.0) w.1 (omega (arith, w.2, a, b)),
      )

  -- of a packet in an out lane, the lane that accepted it is the one that delivered it
  pub delivered-at : (o c x : ℕ) → is_in x (out_at s.bare o) ≡ true
      → is_in x (lane_at (history_lanes s.bare) c).accepted ≡ true
      → is_among (lane_at (history_lanes s.bare) c).delivered x
      (lane_at (history_lanes s.bare) c).accepted ≡ true
  delivered-at o c x is in' =
      let at = place-index x (out_at s.bare o) is in
      let w = h.places.from o at.0 at.1 in
      let a = h.counts.delivered_first w.0 in let b = h.counts.pulled_first w.0 in
      let here = place-index x (accepted_at s.bare c) (sym (ap (is_in x) (accepted-is c)) ∙ in') in
      let one = h.places.once w.0 c w.1 here.0 (omega (arith, w.2, a, b)) here.1
      (w.3 ∙ at.2 ∙ sym here.2) in
      let d = delivered-by o x is in
      let among : is_among (delivered_at s.bare w.0) (slice_index (accepted_at s.bare w.0) w.1)
      (accepted_at s.bare w.0) ≡ true =
      is_among-at (delivered_at s.bare w.0) (accepted_at s.bare w.0) w.1 w.2
      (omega (arith, w.2, a, b)) in
      let same = ap (λ y. is_among (delivered_at s.bare w.0) y (accepted_at s.bare w.0))
      (sym (w.3 ∙ at.2)) in
      subst (λ d. is_among (lane_at (history_lanes s.bare) d).delivered x
      (lane_at (history_lanes s.bare) d).accepted ≡ true) one.0
      (rw (lane-is w.0) (same ∙ among))

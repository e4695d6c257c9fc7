-- A set of one class has all its packets that are not retired at one lane.
use Rattle.std.proofs.Common.{ℕ, ◌+◌, ◌-◌, ◌≤◌, ◌<◌, ◌≡◌, ◌≢◌, Bool, true, List, [], ◌∷◌, ◌++◌}
use Rattle.std.proofs.Common.{Some, length, refl, ap, ◌∙◌, sym, arith, suc, zero, inl, inr, get_or}
use Rattle.std.proofs.Common.{set, take, drop}
use Rattle.std.specs.Prelude.{slice_index}
use Rattle.std.specs.Option.{unwrap_or}
use Rattle.std.specs.List.{All, filter}
use Rattle.std.proofs.lemmas.List.{get_or-drop, length-drop, length-take-le, drop-append-le}
use Rattle.std.proofs.lemmas.List.Elements.{All-head, All-tail}
use Rattle.std.proofs.lemmas.Bool.{cases_Bool, ne_eqb, eq-eqb, cases_lt}
use Rattle.steer_base.specs.Entries.{place_in, position, of_class, is_class, current_lane}
use Rattle.steer_base.specs.Entries.{recorded_count}
use Rattle.steer_base.proofs.EntriesLemmas.{current_lane-push}
use Rattle.steer_base.specs.declared.choice.Chosen.{Chosen}
use Rattle.hop_model.specs.Hop.{nobody, chosen_at, HopState, accepted_at, retired_at, arrivals_of}
use Rattle.hop_model.specs.Hop.{choices_of, placed_of, since_of, recent, in_hand}
use Rattle.hop_model.specs.Standing.{StandsAt}
use Rattle.hop_model.specs.Sound.{Sound}
use Rattle.hop_core.specs.Order.{OnlyAt, OneClass}
use Rattle.hop_core.proofs.Lists.{front_and_last}
use Rattle.steer_base.proofs.EntriesLemmas.{of_class-yes}

-- the place of a packet that stands once
pub place_in-at : (xs : List ℕ) (j : ℕ) → j < length xs
    → ((i : ℕ) → i < j → get_or xs i 0 ≢ get_or xs j 0) → place_in (get_or xs j 0) xs ≡ Some (suc j)
place_in-at [] j in' h = absurd (omega arith)
place_in-at (x ∷ xs) zero in' h = rw (eq-eqb x x refl) refl
place_in-at (x ∷ xs) (suc j) in' h =
    let ne : get_or xs j 0 ≢ x = λ e. h 0 (omega arith) (sym e) in
    let i : place_in (get_or xs j 0) xs ≡ Some (suc j) = place_in-at xs j (omega arith)
    (λ i lt. h (suc i) (omega arith)) in
    rw (ne_eqb (get_or xs j 0) x ne, i) refl

pub filter-none : (test : ℕ → Bool) (xs : List ℕ) → ((j : ℕ) → j < length xs
    → test (get_or xs j 0) ≡ true → ⊥) → filter test xs ≡ []
filter-none test [] h = refl
filter-none test (x ∷ xs) h =
    let i : filter test xs ≡ [] = filter-none test xs (λ j in'. h (suc j) (omega arith)) in
    elim (cases_Bool (test x)) [ inl e ↦ absurd (h 0 (omega arith) e) | inr e ↦ rw (e, i) refl ]

-- what holds of those that pass holds of one that passes
pub All-passed : {X : Type 0} (P : X → Type 0) (test : X → Bool) (xs : List X) (d : X)
    → All P (filter test xs) → (i : ℕ) → i < length xs → test (get_or xs i d) ≡ true
    → P (get_or xs i d)
All-passed P test [] d h i in' t = absurd (omega arith)
All-passed P test (x ∷ xs) d h zero in' t =
    let e : test x ≡ true = t in All-head P x (filter test xs) (rw e at h)
All-passed P test (x ∷ xs) d h (suc i) in' t =
    elim (cases_Bool (test x)) [
      | inl e ↦ All-passed P test xs d (All-tail P x (filter test xs) (rw e at h)) i (omega arith) t
      | inr e ↦ All-passed P test xs d (rw e at h) i (omega arith) t
    ]

-- A set of one class has all its unretired packets at the lane of the choice in hand.
pub OnlyAt-from_class : (set : ℕ → Bool) (p : ℕ) (s : HopState) → Sound s
    → ((q i : ℕ) → i < length (arrivals_of s q) → set (slice_index (arrivals_of s q) i) ≡ true
    → q ≡ p)
    → placed_of s p < length (choices_of s p) → set (in_hand s p).id ≡ true
    → (k : ℕ) → OneClass set (recent s p) k → OnlyAt set s.bare (in_hand s p).choice.lane
OnlyAt-from_class set p s h mine more member k same d ne =
    let hand : Chosen = in_hand s p in
    let one = h.hands.one p in let ch = h.hands.chosen p in let old = h.hands.past p in
    let front : List Chosen = take (placed_of s p) (choices_of s p) in
    let len : length front ≡ placed_of s p = length-take-le (placed_of s p) (choices_of s p)
    (omega arith) in
    let is : choices_of s p ≡ front ++ hand ∷ [] = front_and_last (choices_of s p)
    (placed_of s p) nobody (omega arith) in
    let cell : recent s p ≡ drop (since_of s p) front ++ hand ∷ [] =
    rw (← is) at (drop-append-le (since_of s p) front (hand ∷ []) (omega arith)) in
    let at_recent : (i : ℕ) → since_of s p ≤ i → get_or (recent s p)
    (i - since_of s p) nobody ≡ chosen_at (choices_of s p) i =
    λ i le. (let f : since_of s p + (i - since_of s p) ≡ i = omega arith in
    rw (get_or-drop (since_of s p) (choices_of s p) (i - since_of s p) nobody, f) refl) in
    let of_set : (i : ℕ) → since_of s p ≤ i → i < length (choices_of s p)
    → set (chosen_at (choices_of s p) i).id ≡ true
    → (chosen_at (choices_of s p) i).choice.class ≡ Some k =
    λ i le lt t. (rw (at_recent i le) at (same (i - since_of s p) nobody
    (let l = length-drop (since_of s p) (choices_of s p) in omega arith))) t in
    let hand_class : hand.choice.class ≡ Some k = of_set (placed_of s p) old more member in
    let passes : (c : Chosen) → c.choice.class ≡ Some k → is_class k c.choice.class ≡ true =
    λ c e. rw (e, eq-eqb k k refl) refl in
    let current : current_lane (of_class k (recent s p)) ≡ Some hand.choice.lane =
    rw (cell, of_class-yes k (drop (since_of s p) front) hand (passes hand hand_class))
    (current_lane-push (of_class k (drop (since_of s p) front)) hand) in
    filter-none set (drop (retired_at s.bare d) (accepted_at s.bare d)) (λ j jn t.
    let n : ℕ = retired_at s.bare d + j in
    let x : ℕ = slice_index (accepted_at s.bare d) n in
    let moved : get_or (drop (retired_at s.bare d) (accepted_at s.bare d)) j 0 ≡ x =
    get_or-drop (retired_at s.bare d) (accepted_at s.bare d) j 0 in
    let l = length-drop (retired_at s.bare d) (accepted_at s.bare d) in
    let nl : n < length (accepted_at s.bare d) = omega arith in
    let w = h.puts d n nl in
    let a = h.hands.arrived w.0 in let b = h.hands.put w.0 in let c = h.hands.chosen w.0 in
    let lt = w.2 in
    let tx : set x ≡ true = rw moved at t in
    let from : slice_index (arrivals_of s w.0) w.1 ≡ x =
    sym (h.hands.of_arrivals w.0 w.1 (omega arith)) ∙ w.3 in
    let q : w.0 ≡ p = mine w.0 w.1 (omega arith) (rw from tx) in
    let cc : Chosen = chosen_at (choices_of s p) w.1 in
    let same_cc : chosen_at (choices_of s w.0) w.1 ≡ cc =
    ap (λ q. chosen_at (choices_of s q) w.1) q in
    let id : cc.id ≡ x = rw same_cc at w.3 in
    let lane : cc.choice.lane ≡ d = rw same_cc at w.4 in
    let wl : w.1 < length (choices_of s p) =
    (let e : length (choices_of s w.0) ≡ length (choices_of s p) = ap
    (λ q. length (choices_of s q)) q in omega arith) in
    let place : position (accepted_at s.bare) cc ≡ Some (suc n) =
    rw (id, lane) (place_in-at (accepted_at s.bare d) n nl
    (λ i li e. let g = h.places.once d d i n (omega arith) nl e in omega (arith, g.1))) in
    elim (cases_lt w.1 (since_of s p)) [
      | inl before ↦ (let f : suc n ≤ retired_at s.bare cc.choice.lane = h.past p w.1
          (suc n) before place in let g : suc n ≤ retired_at s.bare d = rw lane at f in omega arith)
      | inr after ↦ (
          let class : cc.choice.class ≡ Some k = of_set w.1 after wl (rw id tx) in
          let i : ℕ = w.1 - since_of s p in
          let il : i < length (recent s p) = (let l = length-drop (since_of s p) (choices_of s p) in
          omega arith) in
          let stands = All-passed (StandsAt (accepted_at s.bare) (retired_at s.bare)
          (current_lane (of_class k (recent s p))) (recorded_count (accepted_at s.bare)
          (of_class k (recent s p)))) (λ c. is_class k c.choice.class) (recent s p) nobody
          (h.stands p k) i il (rw (at_recent w.1 after) (passes cc class)) in
          let r : retired_at s.bare cc.choice.lane < suc n = rw lane (omega arith) in
          let f = (rw (at_recent w.1 after) at stands) (suc n) place r in
          let g : Some hand.choice.lane ≡ Some cc.choice.lane = sym current ∙ f.0 in
          let u : hand.choice.lane ≡ cc.choice.lane = ap (λ o. unwrap_or o 0) g in
          ne (sym (u ∙ lane)))
    ])

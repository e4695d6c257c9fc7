-- The walk along the choices of one class: while the class stays on a lane, its recorded count is
-- at least the count of an earlier accepted packet there; and it leaves the lane only where that
-- packet was retired.
use Rattle.std.proofs.Common.{ℕ, zero, suc, ◌+◌, ◌^◌, ◌≤◌, ◌<◌, ◌≡◌, ◌≢◌, ◌⊎◌, inl, inr, Bool, true}
use Rattle.std.proofs.Common.{false, List, [], ◌∷◌, ◌++◌, Option, Some, None, length, refl, ap, ◌∙◌}
use Rattle.std.proofs.Common.{sym, subst, arith, get_or, take}
use Rattle.std.specs.Prelude.{◌==◌, nat_le}
use Rattle.std.specs.Option.{unwrap_or}
use Rattle.std.proofs.lemmas.Bool.{cases_Bool, cases_eq, eq-eqb, eqb-false, eqb-true, leb-true}
use Rattle.std.proofs.lemmas.List.{get_or-take, length-take-le, take_more}
use Rattle.steer_base.specs.Choices.{by_entry, has_moved}
use Rattle.steer_base.specs.Counters.{has_reached, number}
use Rattle.steer_base.specs.Entries.{current_lane, is_class, of_class, position, recorded_count}
use Rattle.steer_base.specs.declared.choice.Chosen.{Chosen}
use Rattle.steer_base.proofs.CountersLemmas.{has_reached-counts}
use Rattle.steer_base.proofs.EntriesLemmas.{current_lane-push, of_class-no, of_class-yes}
use Rattle.steer_base.proofs.EntriesLemmas.{recorded_count-accept, recorded_count-le}
use Rattle.steer_base.proofs.EntriesLemmas.{recorded_count-push}
use Rattle.steer_base.proofs.RuleLemmas.{by_entry-ways}
use Rattle.dev_flow_table.specs.Walks.{IsWalk, SinceIsLastChange, WalkKeepsOrder, since_resize}

-- ---- one choice

module _ (start : ℕ) (wide : start < 2 ^ 32) (accepted : ℕ → List ℕ) (fits : (l : ℕ)
    → length (accepted l) ≤ 262144) where
  -- the class is on the lane a, and its recorded count is at least n
  abbrev pub Stays : ℕ → ℕ → List Chosen → Type 0
  Stays a n bs = (current_lane bs ≡ Some a) × (n ≤ recorded_count accepted bs)

  after_stay : (a n : ℕ) (bs : List Chosen) (c : Chosen) (o : Option ℕ) → position accepted c ≡ o
      → has_moved c.choice.why ≡ false → c.choice.lane ≡ a → Stays a n bs
      → ((m : ℕ) → position accepted c ≡ Some m → n ≤ m) → Stays a n (bs ++ c ∷ [])
  after_stay a n bs c (Some m) at still lane s above = (
    current_lane-push bs c ∙ ap Some lane,
    rw (recorded_count-accept accepted bs c m at)
        (above m at),
  )
  after_stay a n bs c None at still lane s above =
      (current_lane-push bs c ∙ ap Some lane, rw (recorded_count-push accepted bs c at, still) s.1)

  pub one_choice : (k : ℕ) (want : Option ℕ) (desired head : ℕ) (online : ℕ → Bool) (a n most : ℕ)
      (bs : List Chosen) (c : Chosen)
      → c.choice ≡ by_entry k want desired (number start (recorded_count accepted bs))
      (λ l. head) online (current_lane bs)
      → (c.choice.head ≡ Some head → (h : ℕ) × (head ≡ number start h) × (h ≤ most)) → most ≤ 262144
      → (online a ≡ false → n ≤ most)
      → (c.choice.lane ≡ a → (m : ℕ) → position accepted c ≡ Some m → n ≤ m)
      → Stays a n bs → (n ≤ most) ⊎ Stays a n (bs ++ c ∷ [])
  one_choice k want desired head online a n most bs c rule loaded few off above s =
      let rule' : c.choice ≡ by_entry k want desired (number start (recorded_count accepted bs))
      (λ l. head) online (Some a) = rw s.0 at rule in
      elim (by_entry-ways k want desired (number start (recorded_count accepted bs))
      (λ l. head) online a c.choice rule') [
        | inl stay ↦ inr (after_stay a n bs c (position accepted c) refl stay.0 stay.1 s
            (above stay.1))
        | inr left ↦ elim left [
          | inl o ↦ inl (off o)
          | inr p ↦ (
              let h = loaded p.1 in
              let le = h.2 in
              let tail_fits : recorded_count accepted bs ≤ 262144 =
              recorded_count-le accepted bs 262144 fits in
              let reached : has_reached (number start h.0)
              (number start (recorded_count accepted bs)) 0 ≡ true = rw h.1 at p.0 in
              let counts : nat_le (recorded_count accepted bs + 0) h.0 ≡ true =
              sym (has_reached-counts start h.0 (recorded_count accepted bs) 0 wide
              (omega arith) tail_fits) ∙ reached in
              let le2 = leb-true (recorded_count accepted bs + 0) h.0 counts in
              let le3 = s.1 in
              inl (omega arith))
        ]
      ]

-- ---- the walk

its_class : (k : ℕ) (class : Option ℕ) → is_class k class ≡ true → class ≡ Some k
its_class k None e = absurd cc
its_class k (Some j) e = ap Some (sym (eqb-true k j e))

of_its_class : (k : ℕ) (class : Option ℕ) → class ≡ Some k → is_class k class ≡ true
of_its_class k class e = ap (is_class k) e ∙ eq-eqb k k refl

one_more : (cs : List Chosen) (i : ℕ) (d : Chosen) → i < length cs → take (suc i) cs ≡ take i cs
    ++ get_or cs i d ∷ []
one_more cs i d in' = let up : suc i ≡ i + 1 = omega arith in ap (λ n. take n cs) up
    ∙ take_more cs i d in'

module _ (start : ℕ) (accepted : ℕ → List ℕ) (retired : ℕ → ℕ → ℕ) (cs : List Chosen)
    (h : IsWalk start accepted retired cs)
    (i k n : ℕ) (d : Chosen) (at : position accepted (get_or cs i d) ≡ Some n)
    (is : (get_or cs i d).choice.class ≡ Some k) where
  abbrev home : ℕ
  home = (get_or cs i d).choice.lane

  abbrev of_k : ℕ → List Chosen
  of_k j = of_class k (take j cs)

  -- up to the choice j the class stayed, or the packet is retired
  abbrev Walked : ℕ → Type 0
  Walked j = (n ≤ retired j home) ⊎ Stays start h.start_small accepted h.few home n (of_k (suc j))

  grown : (j : ℕ) → j < length cs → is_class k (get_or cs j d).choice.class ≡ true
      → of_k (suc j) ≡ of_k j ++ get_or cs j d ∷ []
  grown j in' mine = ap (of_class k) (one_more cs j d in') ∙ of_class-yes k (take j cs)
      (get_or cs j d) mine

  first : i < length cs → Walked i
  first in' =
      let whole : of_k (suc i) ≡ of_k i ++ get_or cs i d ∷ [] =
      grown i in' (of_its_class k (get_or cs i d).choice.class is) in
      inr (
        rw whole (current_lane-push (of_k i) (get_or cs i d)),
        rw
            (whole, recorded_count-accept accepted (of_k i) (get_or cs i d) n at) (omega arith),
      )

  next : (j : ℕ) → i ≤ j → suc j < length cs → Walked j → Walked (suc j)
  next j le in' (inl gone) = inl (let up = h.rising j (suc j) home (omega arith) in omega arith)
  next j le in' (inr stays) =
      let c : Chosen = get_or cs (suc j) d in
      elim (cases_Bool (is_class k c.choice.class)) [
        | inr other ↦ (
            let whole : of_k (suc (suc j)) ≡ of_k (suc j) =
            ap (of_class k) (one_more cs (suc j) d in') ∙ of_class-no k
            (take (suc j) cs) c other in
            inr (rw whole stays))
        | inl mine ↦ (
            let whole : of_k (suc (suc j)) ≡ of_k (suc j) ++ c ∷ [] = grown (suc j) in' mine in
            let b = h.ruled (suc j) k d in' (its_class k c.choice.class mine) in
            let long : length (take (suc j) cs) ≡ suc j = length-take-le (suc j) cs (omega arith) in
            let old : get_or (take (suc j) cs) i d ≡ get_or cs i d = get_or-take (suc j) cs i d
            (omega arith) in
            elim (one_choice start h.start_small accepted h.few k c.choice.want b.desired b.head
            b.online home n (retired (suc j) home) (of_k (suc j)) c
            b.rule (b.seen home stays.0) (h.few_retired (suc j) home)
            (λ off. (
            let gone = b.drained i n d (omega arith) (rw old off) (rw old at) in
            rw old at gone))
            (λ same m at'. let lt = h.in_order i (suc j) n m d (omega arith) in'
            (sym same) at at' in omega arith)
            stays) [
              | inl gone ↦ inl gone
              | inr more ↦ inr (rw whole more)
            ])
      ]

  walk : (j : ℕ) → i ≤ j → j < length cs → Walked j
  walk zero le in' = let e : i ≡ 0 = omega arith in subst Walked e (first (omega arith))
  walk (suc j) le in' =
      elim (cases_eq i (suc j)) [
        | inl e ↦ subst Walked e (first (omega arith))
        | inr ne ↦ next j (omega arith) in' (walk j (omega arith) (omega arith))
      ]

pub walk_keeps_order : WalkKeepsOrder
walk_keeps_order start accepted retired cs h i j k n d lt in' is is' at =
    elim (walk start accepted retired cs h i k n d at is j (omega arith) in') [
      | inl gone ↦ inl gone
      | inr stays ↦ (
          let whole = grown start accepted retired cs h i k n d at is j in'
          (of_its_class k (get_or cs j d).choice.class is') in
          let here : Some (get_or cs i d).choice.lane ≡ Some (get_or cs j d).choice.lane =
          sym stays.0 ∙ (ap current_lane whole ∙ current_lane-push (of_class k (take j cs))
          (get_or cs j d)) in
          inr (ap (λ o. unwrap_or o 0) here))
    ]

-- ---- where a table was cleared

since-le : (size : ℕ → ℕ) (j : ℕ) → since_resize size j ≤ j
unfolding since_resize
since-le size zero = omega arith
since-le size (suc j) =
    elim (cases_Bool (size j == size (suc j))) [
      | inl e ↦ rw e (let l = since-le size j in omega arith)
      | inr e ↦ rw e (omega arith)
    ]

since-inside : (size : ℕ → ℕ) (j k : ℕ) → since_resize size j ≤ k → k ≤ j → size k ≡ size j
unfolding since_resize
since-inside size zero k from to = let e : k ≡ 0 = omega arith in ap size e
since-inside size (suc j) k from to =
    elim (cases_eq k (suc j)) [
      | inl e ↦ ap size e
      | inr ne ↦ elim (cases_Bool (size j == size (suc j))) [
        | inl e ↦ (
            let below : since_resize size j ≤ k = rw e at from in
            since-inside size j k below (omega arith) ∙ eqb-true (size j) (size (suc j)) e)
        | inr e ↦ (
            let below : suc j ≤ k = rw e at from in
            absurd (omega arith))
      ]
    ]

since-cut : (size : ℕ → ℕ) (j i : ℕ) → i < since_resize size j → (k : ℕ) × (i ≤ k) × (k < j)
    × (size k ≢ size (suc k))
unfolding since_resize
since-cut size zero i l = absurd (omega arith)
since-cut size (suc j) i l =
    elim (cases_Bool (size j == size (suc j))) [
      | inl e ↦ (
          let l' : i < since_resize size j = rw e at l in
          let t = since-cut size j i l' in
          let le = t.2 in
          (t.0, t.1, omega arith, t.3))
      | inr e ↦ (
          let l' : i < suc j = rw e at l in
          (j, omega arith, omega arith, eqb-false (size j) (size (suc j)) e))
    ]

pub since_is_last_change : SinceIsLastChange
since_is_last_change size j = (
  since-le size j,
  λ k from to. since-inside size j k from to,
  λ i l. since-cut size j i l,
)

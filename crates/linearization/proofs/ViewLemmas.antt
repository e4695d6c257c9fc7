-- Steps, splits and joins of seats keep their views.
use Rattle.std.proofs.Common.{◌≡◌, ◌≢◌, ℕ, zero, suc, ◌+◌, ◌-◌, ◌<◌, List, [], ◌∷◌, ◌++◌, length}
use Rattle.std.proofs.Common.{set, sym, refl, ap, ◌∙◌, subst, ⊎_elim, arith, length-set}
use Rattle.std.proofs.lemmas.List.Elements.{All-nil, All-cons}
use mathlib.Core.Option.{some, some-injective, some-ne-none}
use lib.ListN.{get_elem?}
use Rattle.atomic_table.proofs.Lists.{at_set}
use Rattle.linearization.specs.declared.hands.Hand.{Hand}
use Rattle.linearization.specs.declared.hands.Hands.{Hands}
use Rattle.linearization.specs.Orders.{StepBy, step_by, steps_of}
use Rattle.linearization.specs.Views.{hand, one, no_hands, all_hands, fresh, kept_hands}
use Rattle.linearization.specs.Views.{given_hands, joined_hands}
use Rattle.linearization.specs.Rules.{IsPart, Views}
use Rattle.linearization.proofs.ListLemmas.{if_same, if_other, at_end, at_either}
use Rattle.linearization.proofs.PlaceLemmas.{split_place, split_left, split_else, split_new}
use Rattle.linearization.proofs.PlaceLemmas.{join_place, join_came, join_was, join_else}

module _ {D : Type 0} where
  pub steps_of_own : (p q : ℕ) (d : D) (es : List (StepBy D)) → q ≡ p → steps_of p
      (step_by q d ∷ es) ≡ d ∷ steps_of p es
  steps_of_own p q d es e = if_same q p (d ∷ steps_of p es) (steps_of p es) e

  pub steps_of_other : (p q : ℕ) (d : D) (es : List (StepBy D)) → q ≢ p → steps_of p
      (step_by q d ∷ es) ≡ steps_of p es
  steps_of_other p q d es ne = if_other q p (d ∷ steps_of p es) (steps_of p es) ne

  fresh_at : (n k m : ℕ) (h : Hand D) → get_elem? (fresh n k) m ≡ some h → (m < k)
      × (h ≡ hand (n + m) [])
  fresh_at n zero m h e = absurd (some-ne-none h (sym e))
  fresh_at n (suc k) zero h e = (
    omega arith,
    sym (some-injective (hand n []) h e)
        ∙ ap (λ (z : ℕ). hand z []) (omega arith),
  )
  fresh_at n (suc k) (suc m) h e = let r = fresh_at (n + 1) k m h e in
      let l = r.0 in (omega arith, r.1 ∙ ap (λ (z : ℕ). hand z []) (omega arith))

  pub fresh_step : (k n : ℕ) → k < n → fresh {D = D} k (n - k) ≡ hand k [] ∷ fresh (k + 1)
      (n - (k + 1))
  fresh_step k n l = ap (fresh k) more
    where
      more : n - k ≡ suc (n - (k + 1))
      more = omega arith

  -- a hand of a view whose hands are known
  pub hand_in : (v w : Hands D) (m : ℕ) (h : Hand D) → v ≡ w → get_elem? w.hands m ≡ some h
      → get_elem? v.hands m ≡ some h
  hand_in v w m h is at = subst (λ (z : Hands D). get_elem? z.hands m ≡ some h) (sym is) at

module _ {D : Type 0} (seats : ℕ) where
  -- all hands at the first seat, before any step
  pub views_open : Views {D = D} seats [] (all_hands seats ∷ [])
  views_open = record {
    place = λ p. (0, p);
    each_hand = first_view;
    by_seats = All-nil
        (λ (e : StepBy D). e.by < seats);
  }
    where
      first_view : (j : ℕ) (v : Hands D) → get_elem? (all_hands seats ∷ []) j ≡ some v
          → (m : ℕ) (h : Hand D) → get_elem? v.hands m ≡ some h → IsPart seats []
          (λ p. (0, p)) j m h
      first_view zero v at m h hm =
          let r = fresh_at 0 seats m h (hand_in (all_hands seats) v m h
          (some-injective (all_hands seats) v at) hm) in
          let l = r.0 in let n : h.number ≡ m = ap (λ (z : Hand D). z.number) r.1 ∙ omega arith in
          (omega arith, ap (λ (z : ℕ). (0, z)) n, ap (λ (z : Hand D). z.steps) r.1)
      first_view (suc j) v at m h hm = absurd (some-ne-none v (sym at))

  abbrev Parts : List (Hands D) → List (StepBy D) → (ℕ → ℕ × ℕ) → Type 0
  Parts views order place = (j : ℕ) (v : Hands D) → get_elem? views j ≡ some v
      → (m : ℕ) (h : Hand D) → get_elem? v.hands m ≡ some h → IsPart seats order place j m h

  own_hand : (order : List (StepBy D)) (place : ℕ → ℕ × ℕ) (id p : ℕ) (ds : List D) (d : D)
      → IsPart seats order place id 0 (hand p ds)
      → (m : ℕ) (h : Hand D) → get_elem? (hand p (d ∷ ds) ∷ []) m ≡ some h → IsPart seats
      (step_by p d ∷ order) place id m h
  own_hand order place id p ds d own zero h hm =
      subst (IsPart seats (step_by p d ∷ order) place id 0) (some-injective (hand p (d ∷ ds)) h hm)
      (own.0, own.1, ap (λ l. d ∷ l) own.2 ∙ sym (steps_of_own p p d order refl))
  own_hand order place id p ds d own (suc m) h hm = absurd (some-ne-none h (sym hm))

  -- the hands of the views after a step of the seat id, which has one hand
  parts_step : (views : List (Hands D)) (order : List (StepBy D)) (place : ℕ → ℕ × ℕ) (id p : ℕ)
      (ds : List D) (d : D) → get_elem? views id ≡ some (one p ds)
      → Parts views order place → Parts (set views id (one p (d ∷ ds))) (step_by p d ∷ order) place
  parts_step views order place id p ds d here each j v at m h hm =
      let own = each id (one p ds) here 0 (hand p ds) refl in
      ⊎_elim
      (λ (t : (j ≡ id) × (one p (d ∷ ds) ≡ v)). subst (λ (z : ℕ). IsPart seats
      (step_by p d ∷ order) place z m h) (sym t.0)
      (own_hand order place id p ds d own m h (hand_in (one p (d ∷ ds)) v m h t.1 hm)))
      (λ (t : (j ≢ id) × (get_elem? views j ≡ some v)).
      let was = each j v t.1 m h hm in
      let apart : p ≢ h.number =
      λ e. t.0 (ap (λ (z : ℕ × ℕ). z.0) (sym was.1 ∙ (ap place (sym e) ∙ own.1))) in
      (was.0, was.1, was.2 ∙ sym (steps_of_other h.number p d order apart)))
      (at_set views id j (one p (d ∷ ds)) v at)

  pub views_step : (views : List (Hands D)) (order : List (StepBy D)) (id p : ℕ) (ds : List D)
      (d : D) → get_elem? views id ≡ some (one p ds) → Views seats order views
      → Views seats (step_by p d ∷ order) (set views id (one p (d ∷ ds)))
  views_step views order id p ds d here r =
      let own = r.each_hand id (one p ds) here 0 (hand p ds) refl in record {
        place = r.place;
        each_hand = parts_step views order r.place id p ds d here r.each_hand;
        by_seats = All-cons (λ (e : StepBy D). e.by < seats) (step_by p d) order own.0 r.by_seats;
      }

  -- a new seat has no hand
  pub views_sit : (views : List (Hands D)) (order : List (StepBy D)) → Views seats order views
      → Views seats order (views ++ no_hands ∷ [])
  views_sit views order r = record {
    place = r.place;
    each_hand = λ j v at m h hm. ⊎_elim (λ at'. r.each_hand j v at' m h hm)
        (λ (t : (j ≡ length views) × (no_hands ≡ v)). absurd
        (some-ne-none h (sym (hand_in no_hands v m h t.1 hm)))) (at_end views no_hands v j at);
    by_seats = r.by_seats;
  }

  module _ (views : List (Hands D)) (order : List (StepBy D)) (place : ℕ → ℕ × ℕ) (id : ℕ)
      (h0 : Hand D) (hs : List (Hand D)) (here : get_elem? views id ≡ some
      (record { hands = h0 ∷ hs })) (each : Parts views order place) where
    abbrev split_to : ℕ → ℕ × ℕ
    split_to = split_place (length views) id h0.number place

    split_kept : (j : ℕ) (v : Hands D) → j ≡ id → record { hands = hs } ≡ v → (m : ℕ) (h : Hand D)
        → get_elem? v.hands m ≡ some h → IsPart seats order split_to j m h
    split_kept j v is is' m h hm =
        let own = each id (record { hands = h0 ∷ hs }) here 0 h0 refl in
        let was = each id (record { hands = h0 ∷ hs }) here (suc m) h
        (hand_in (record { hands = hs }) v m h is' hm) in
        let apart : h.number ≢ h0.number = λ e. let c : suc m ≡ 0 =
        ap (λ (z : ℕ × ℕ). z.1) (sym was.1 ∙ (ap place e ∙ own.1)) in absurd (omega arith) in (
          was.0,
          split_left (length views) id h0.number place h.number m apart was.1
              ∙ ap (λ (z : ℕ). (z, m)) (sym is),
          was.2,
        )

    split_given : (j : ℕ) (v : Hands D) → j ≡ length views → record { hands = h0 ∷ [] } ≡ v
        → (m : ℕ) (h : Hand D) → get_elem? v.hands m ≡ some h → IsPart seats order split_to j m h
    split_given j v is is' zero h hm =
        let own = each id (record { hands = h0 ∷ hs }) here 0 h0 refl in
        let same : h0 ≡ h =
        some-injective h0 h (hand_in (record { hands = h0 ∷ [] }) v 0 h is' hm) in
        subst (λ (z : Hand D × ℕ). IsPart seats order split_to z.1 0 z.0) (λ k. (same k, sym is k))
        (own.0, split_new (length views) id h0.number place, own.2)
    split_given j v is is' (suc m) h hm =
        absurd (some-ne-none h (sym (hand_in (record { hands = h0 ∷ [] }) v (suc m) h is' hm)))

    parts_split : Parts (set views id (record { hands = hs }) ++ record { hands = h0 ∷ [] }
        ∷ []) order split_to
    parts_split j v at m h hm =
        let left : Hands D = record { hands = hs } in let right : Hands D =
        record { hands = h0 ∷ [] } in
        let own = each id (record { hands = h0 ∷ hs }) here 0 h0 refl in
        ⊎_elim
        (λ (old : get_elem? (set views id left) j ≡ some v).
        ⊎_elim
        (λ (t : (j ≡ id) × (left ≡ v)). split_kept j v t.0 t.1 m h hm)
        (λ (t : (j ≢ id) × (get_elem? views j ≡ some v)). let was = each j v t.1 m h hm in (
          was.0,
          split_else (length views) id h0.number place h.number j m
              (λ e. t.0 (ap (λ (z : ℕ × ℕ). z.0) (sym was.1 ∙ (ap place e ∙ own.1)))) was.1 t.0,
          was.2,
        ))
        (at_set views id j left v old))
        (λ (t : (j ≡ length (set views id left)) × (right ≡ v)). split_given j v
        (t.0 ∙ length-set views id left) t.1 m h hm)
        (at_end (set views id left) right v j at)

  pub views_deal : (views : List (Hands D)) (order : List (StepBy D)) (id : ℕ) (v : Hands D)
      (h0 : Hand D) (hs : List (Hand D)) → v.hands ≡ h0 ∷ hs → get_elem? views id ≡ some v
      → Views seats order views
      → Views seats order (set views id (kept_hands v) ++ given_hands v ∷ [])
  views_deal views order id v h0 hs is at r =
      let v_is : v ≡ record { hands = h0 ∷ hs } =
      ap (λ (l : List (Hand D)). record { hands = l }) is in
      subst (λ (z : Hands D × Hands D). Views seats order (set views id z.0 ++ z.1 ∷ []))
      (λ k. (kept_hands (sym v_is k), given_hands (sym v_is k)))
      record {
        place = split_place (length views) id h0.number r.place;
        each_hand = parts_split views order r.place id h0 hs (at ∙ ap some v_is) r.each_hand;
        by_seats = r.by_seats;
      }

  module _ (views : List (Hands D)) (order : List (StepBy D)) (place : ℕ → ℕ × ℕ) (id other : ℕ)
      (v w : Hands D) (here : get_elem? views id ≡ some v) (ne : other ≢ id)
      (there : get_elem? views other ≡ some w) (each : Parts views order place) where
    abbrev join_to : ℕ → ℕ × ℕ
    join_to = join_place id other (length w.hands) place

    joined_part : (m : ℕ) (h : Hand D) → get_elem? (w.hands ++ v.hands) m ≡ some h
        → IsPart seats order join_to id m h
    joined_part m h hm = ⊎_elim
        (λ (a : get_elem? w.hands m ≡ some h). let was = each other w there m h a in
        (was.0, join_came id other (length w.hands) place h.number m was.1, was.2))
        (λ (a : (k : ℕ) × (m ≡ k + length w.hands) × (get_elem? v.hands k ≡ some h)).
        let was = each id v here a.0 h a.2 in (
          was.0,
          join_was id other (length w.hands) place h.number a.0 (λ e. ne (sym e)) was.1
              ∙ ap (λ (z : ℕ). (id, z)) (sym a.1),
          was.2,
        ))
        (at_either w.hands v.hands m h hm)

    parts_join : Parts (set (set views id (joined_hands v w)) other no_hands) order join_to
    parts_join j u at m h hm =
        let both : Hands D = joined_hands v w in
        ⊎_elim
        (λ (t : (j ≡ other) × (no_hands ≡ u)). absurd
        (some-ne-none h (sym (hand_in no_hands u m h t.1 hm))))
        (λ (t : (j ≢ other) × (get_elem? (set views id both) j ≡ some u)).
        ⊎_elim
        (λ (q : (j ≡ id) × (both ≡ u)). subst (λ (z : ℕ). IsPart seats order join_to z m h)
        (sym q.0) (joined_part m h (hand_in both u m h q.1 hm)))
        (λ (q : (j ≢ id) × (get_elem? views j ≡ some u)). let was = each j u q.1 m h hm in
        (was.0, join_else id other (length w.hands) place h.number j m t.0 q.0 was.1, was.2))
        (at_set views id j both u t.1))
        (at_set (set views id both) other j no_hands u at)

  pub views_gather : (views : List (Hands D)) (order : List (StepBy D)) (id other : ℕ)
      (v w : Hands D) → get_elem? views id ≡ some v → other ≢ id → get_elem? views other ≡ some w
      → Views seats order views
      → Views seats order (set (set views id (joined_hands v w)) other no_hands)
  views_gather views order id other v w here ne there r =
      record {
        place = join_place id other (length w.hands) r.place;
        each_hand = parts_join views order r.place id other v w here ne there r.each_hand;
        by_seats = r.by_seats;
      }

-- The heads that choices saw, one choice more.
use Rattle.std.proofs.Common.{ℕ, ◌≡◌, ◌≤◌, ◌<◌, ◌+◌, List, [], Some, true, false}
use Rattle.std.proofs.Common.{length, ap, ◌∙◌, sym, arith, inl, inr, get_or, set, subst}
use Rattle.std.specs.Prelude.{is_some, slice_index}
use Rattle.std.specs.List.{list_any}
use Rattle.std.proofs.Math.ListN.{get_or-eq_default}
use Rattle.std.proofs.lemmas.Bool.{cases_eq, cases_lt}
use Rattle.std.proofs.lemmas.List.{get_or-set_other, get_or-set_same}
use Rattle.std.proofs.lemmas.List.Folds.{list_any_at}
use Rattle.steer_base.specs.Counters.{distance}
use Rattle.steer_base.specs.declared.choice.Chosen.{Chosen}
use Rattle.hop_model.specs.Hop.{chosen_at, nobody}
use Rattle.history.specs.Lists.{lane_at, list_at}
use Rattle.history.specs.declared.lane_list.LaneList.{LaneList}
use Rattle.history.proofs.SamePlaces.{some_same}
use Rattle.steer_model.specs.Good.Choices.{HeadsRise}
use Rattle.good_check.specs.Heads.{HaveSeen, Saw}

module _ (start : ℕ) (lanes : List LaneList) (cs : List Chosen) (n : ℕ) (last : List ℕ)
    (seen : HaveSeen start lanes cs n last) where
  -- a choice that saw no head at a lane changes nothing
  pub seen-nothing : ((head lane : ℕ) → Saw cs n head lane → ⊥)
      → HaveSeen start lanes cs (n + 1) last
  seen-nothing none = record {
    within = λ k head lane l s. elim (cases_lt k n) [
      | inl less ↦ seen.within k head lane less s
      | inr not ↦ absurd (none head lane
          (subst (λ j. Saw cs j head lane) (omega (arith, l, not)) s))
    ];
    rise = λ j k before head lane below l a b. elim (cases_lt k n) [
      | inl less ↦ seen.rise j k before head lane below less a b
      | inr not ↦ absurd (none head lane
          (subst (λ m. Saw cs m head lane) (omega (arith, l, not)) b))
    ];
    bound = λ k head lane l s. elim (cases_lt k n) [
      | inl less ↦ seen.bound k head lane less s
      | inr not ↦ absurd (none head lane
          (subst (λ j. Saw cs j head lane) (omega (arith, l, not)) s))
    ];
    attained = λ lane. elim (seen.attained lane) [
      | inl z ↦ inl z
      | inr w ↦ inr (w.0, w.1, omega (arith, w.2), w.3, w.4)
    ];
  }

  -- a choice that saw a head, neither below the last one nor over what the lane retired
  module _ (head lane count : ℕ) (saw : Saw cs n head lane) (is : count ≡ distance head start)
      (there : lane < length last) (above : slice_index last lane ≤ count)
      (retired : count ≤ (lane_at lanes lane).retired) where
    same-head : (other at : ℕ) → Saw cs n other at → (other ≡ head) × (at ≡ lane)
    same-head other at s =
        (some_same other head (sym s.0 ∙ saw.0), some_same at lane (sym s.1 ∙ saw.1))

    kept-or-more : (at : ℕ) → slice_index last at ≤ slice_index (set last lane count) at
    kept-or-more at = elim (cases_eq at lane) [
      | inl e ↦
          let f : slice_index (set last lane count) at ≡ count =
          ap (λ a. slice_index (set last lane count) a) e
          ∙ get_or-set_same last lane count 0 there in
          let g : slice_index last at ≡ slice_index last lane = ap (slice_index last) e in
          omega (arith, f, g, above)
      | inr ne ↦
          let f : slice_index (set last lane count) at ≡ slice_index last at =
          get_or-set_other last lane at count 0 ne in omega (arith, f)
    ]

    pub seen-head : HaveSeen start lanes cs (n + 1) (set last lane count)
    seen-head = record {
      within = λ k other at l s. elim (cases_lt k n) [
        | inl less ↦ seen.within k other at less s
        | inr not ↦
            let same = same-head other at
            (subst (λ j. Saw cs j other at) (omega (arith, l, not)) s) in
            let d : distance other start ≡ count =
            ap (λ x. distance x start) same.0 ∙ sym is in
            let r : (lane_at lanes at).retired ≡ (lane_at lanes lane).retired =
            ap (λ a. (lane_at lanes a).retired) same.1 in
            omega (arith, d, r, retired)
      ];
      rise = λ j k before other at below l a b. elim (cases_lt k n) [
        | inl less ↦ seen.rise j k before other at below less a b
        | inr not ↦
            let here : k ≡ n = omega (arith, l, not) in
            let same = same-head other at (subst (λ m. Saw cs m other at) here b) in
            let d : distance other start ≡ count =
            ap (λ x. distance x start) same.0 ∙ sym is in
            let low = seen.bound j before at (omega (arith, below, here)) a in
            let g : slice_index last at ≡ slice_index last lane = ap (slice_index last) same.1 in
            omega (arith, d, low, g, above)
      ];
      bound = λ k other at l s. elim (cases_lt k n) [
        | inl less ↦
            let low = seen.bound k other at less s in omega (arith, low, kept-or-more at)
        | inr not ↦
            let same = same-head other at
            (subst (λ j. Saw cs j other at) (omega (arith, l, not)) s) in
            let d : distance other start ≡ count =
            ap (λ x. distance x start) same.0 ∙ sym is in
            let f : slice_index (set last lane count) at ≡ count =
            ap (λ a. slice_index (set last lane count) a) same.1
            ∙ get_or-set_same last lane count 0 there in
            omega (arith, d, f)
      ];
      attained = λ at. elim (cases_eq at lane) [
        | inl e ↦
            let f : slice_index (set last lane count) at ≡ count =
            ap (λ a. slice_index (set last lane count) a) e
            ∙ get_or-set_same last lane count 0 there in
            inr (
              n,
              head,
              omega arith,
              subst (λ a. Saw cs n head a) (sym e) saw,
              sym is ∙ sym f,
            )
        | inr ne ↦
            let f : slice_index (set last lane count) at ≡ slice_index last at =
            get_or-set_other last lane at count 0 ne in
            elim (seen.attained at) [
              | inl z ↦ inl (f ∙ z)
              | inr w ↦ inr (w.0, w.1, omega (arith, w.2), w.3, w.4 ∙ sym f)
            ]
      ];
    }

-- no choices, no heads
pub rise-none : (start : ℕ) (lanes : List LaneList) (cs : List Chosen) → cs ≡ []
    → HeadsRise start lanes cs
rise-none start lanes cs none = record {
  within = λ k head lane l h s. let e : length cs ≡ 0 = ap length none in
      absurd (omega (arith, e, l));
  rise = λ j k before head lane below l a b c d. let e : length cs ≡ 0 = ap length none in
      absurd (omega (arith, e, l));
}

-- choices that saw no heads
pub rise-unseen : (start : ℕ) (lanes : List LaneList) (cs : List Chosen)
    → list_any (λ c. is_some c.choice.head) cs ≡ false → HeadsRise start lanes cs
rise-unseen start lanes cs none =
    let seen : (k head : ℕ) → k < length cs → (chosen_at cs k).choice.head ≡ Some head → ⊥ =
    λ k head l h.
    let t : list_any (λ c. is_some c.choice.head) cs ≡ true =
    list_any_at (λ c. is_some c.choice.head) cs k nobody l (ap is_some h) in
    let f : true ≡ false = sym t ∙ none in absurd (cc) in record {
      within = λ k head lane l h s. absurd (seen k head l h);
      rise = λ j k before head lane below l a b c d. absurd (seen k head l c);
    }

-- each list, and those past the last
pub all-lists : (start : ℕ) (lanes : List LaneList) (lists : List (List Chosen))
    → ((k : ℕ) (d : List Chosen) → k < length lists → HeadsRise start lanes (get_or lists k d))
    → (q : ℕ) → HeadsRise start lanes (list_at lists q)
all-lists start lanes lists all q = elim (cases_lt q (length lists)) [
  | inl l ↦ all q [] l
  | inr l ↦ rise-none start lanes (list_at lists q) (get_or-eq_default lists [] l)
]

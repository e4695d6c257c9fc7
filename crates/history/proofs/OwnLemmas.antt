-- Lists of which at most one, the own one, has anything: what the first of them has, and which is
-- the first that passes.
use Rattle.std.proofs.Common.{ℕ, ◌<◌, ◌≡◌, Bool, true, false, List, [], ◌∷◌, Option, Some, None}
use Rattle.std.proofs.Common.{length, refl, ap, ◌∙◌, sym, arith, suc, zero, inl, inr, get_or}
use Rattle.std.specs.Prelude.{if◌then◌else◌}
use Rattle.std.specs.List.{position}
use Rattle.std.specs.Option.{option_or, option_and_then, is_some}
use Rattle.std.proofs.Math.ListN.{get_or-eq_default}
use Rattle.std.proofs.lemmas.Bool.{cases_Bool, cases_lt}
use Rattle.history.specs.Finding.{first_some}
use Rattle.history.proofs.PositionLemmas.{position-only, position-none}

pub none-unless : {T : Type 0} (o : Option T) → is_some o ≡ false → o ≡ None
none-unless None e = refl
none-unless (Some a) e = absurd (cc)

pub not-true : (b : Bool) → (b ≡ true → ⊥) → b ≡ false
not-true true h = absurd (h refl)
not-true false h = refl

module _ {B T : Type 0} (look : B → Option T) (d : B) where
  pub first-none : (xs : List B) → ((i : ℕ) → i < length xs
      → is_some (look (get_or xs i d)) ≡ false) → first_some look xs ≡ None
  first-none [] h = refl
  first-none (x ∷ xs) h = rw (none-unless (look x) (h 0 (omega arith)))
      (first-none xs (λ i l. h (suc i) (omega arith)))

  first-one : (xs : List B) (c : ℕ) → c < length xs → ((i : ℕ) → i < length xs
      → is_some (look (get_or xs i d)) ≡ true → i ≡ c) → first_some look xs ≡ look (get_or xs c d)
  first-one [] c l h = absurd (omega arith)
  first-one (x ∷ xs) zero l h =
      let rest : first_some look xs ≡ None =
      first-none xs (λ i k. not-true (is_some (look (get_or xs i d))) (λ e.
      let f : suc i ≡ 0 = h (suc i) (omega arith) e in omega arith)) in
      rw rest (elim (look x) as (λ o. option_or o None ≡ o) [ None ↦ refl | Some a ↦ refl ])
  first-one (x ∷ xs) (suc c) l h =
      let none : look x ≡ None = none-unless (look x) (not-true (is_some (look x)) (λ e.
      let f : 0 ≡ suc c = h 0 (omega arith) e in omega arith)) in
      rw none (first-one xs c (omega arith) (λ i k e. let f : suc i ≡ suc c = h (suc i)
      (omega arith) e in omega arith))

  -- the first that has anything is the own one
  pub own-first : (xs : List B) (o : Option ℕ) → look d ≡ None
      → ((i : ℕ) → is_some (look (get_or xs i d)) ≡ true → o ≡ Some i)
      → first_some look xs ≡ option_and_then (λ c. look (get_or xs c d)) o
  own-first xs None n h = first-none xs (λ i l. not-true (is_some (look (get_or xs i d))) (λ e.
      let f : None ≡ Some i = h i e in cc))
  own-first xs (Some c) n h =
      elim (cases_lt c (length xs)) [
        | inl l ↦ first-one xs c l (λ i k e. let f : Some c ≡ Some i = h i e in
            let g : c ≡ i = cc in sym g)
        | inr l ↦
            let b : get_or xs c d ≡ d = get_or-eq_default xs d l in
            first-none xs (λ i k. not-true (is_some (look (get_or xs i d))) (λ e.
            let f : Some c ≡ Some i = h i e in let g : c ≡ i = cc in omega arith))
            ∙ sym (ap look b ∙ n)
      ]

-- the first that passes is the own one, if it does
pub own-position : {B : Type 0} (p : B → Bool) (d : B) (xs : List B) (o : Option ℕ) → p d ≡ false
    → ((i : ℕ) → p (get_or xs i d) ≡ true → o ≡ Some i)
    → position p xs ≡ option_and_then (λ c. if p (get_or xs c d) then Some c else None) o
own-position p d xs None n h = position-none p xs d (λ i l. not-true (p (get_or xs i d)) (λ e.
    let f : None ≡ Some i = h i e in cc))
own-position p d xs (Some c) n h =
    elim (cases_Bool (p (get_or xs c d))) [
      | inl t ↦ rw t (elim (cases_lt c (length xs)) [
        | inl l ↦ position-only p xs d c l t (λ k b e. let f : Some c ≡ Some k = h k e in
            let g : c ≡ k = cc in sym g)
        | inr l ↦ let b : p (get_or xs c d) ≡ false = ap p (get_or-eq_default xs d l) ∙ n in
            absurd (cc)
      ])
      | inr t ↦ rw t (position-none p xs d (λ i l. not-true (p (get_or xs i d)) (λ e.
          let f : Some c ≡ Some i = h i e in let g : c ≡ i = cc in
          let s : p (get_or xs i d) ≡ false = ap (λ k. p (get_or xs k d)) (sym g) ∙ t in cc)))
    ]

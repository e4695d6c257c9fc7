-- The first index at which a test passes.
use Rattle.std.proofs.Common.{ℕ, ◌<◌, ◌≡◌, Bool, true, false, List, Some, None, length, refl, ap}
use Rattle.std.proofs.Common.{arith, inl, inr, get_or, subst}
use Rattle.std.specs.Prelude.{nat_lt}
use Rattle.std.specs.List.{position, position_or_len}
use Rattle.std.proofs.lemmas.Bool.{cases_Bool}
use Rattle.std.proofs.lemmas.List.Sums.{position_or_len_is, passes_at_first}

-- it is in the list, and the test passes there
pub position-passes : {A : Type 0} (p : A → Bool) (xs : List A) (d : A) (i : ℕ)
    → position p xs ≡ Some i → (i < length xs) × (p (get_or xs i d) ≡ true)
position-passes p xs d i e =
    elim (cases_Bool (nat_lt (position_or_len p xs) (length xs))) [
      | inl t ↦
          let l : position_or_len p xs < length xs = grind arith in
          let f : position p xs ≡ Some (position_or_len p xs) = rw t refl in
          let g : position_or_len p xs ≡ i = cc in (
            subst (λ n. n < length xs) g l,
            subst (λ n. p (get_or xs n d) ≡ true) g
                (passes_at_first p xs d l),
          )
      | inr t ↦ let f : position p xs ≡ None = rw t refl in absurd (cc)
    ]

-- where the test passes at one index alone, that is it
pub position-only : {A : Type 0} (p : A → Bool) (xs : List A) (d : A) (i : ℕ) → i < length xs
    → p (get_or xs i d) ≡ true
    → ((k : ℕ) → k < length xs → p (get_or xs k d) ≡ true → k ≡ i) → position p xs ≡ Some i
position-only p xs d i l t only =
    let n : position_or_len p xs ≡ i = position_or_len_is p xs i d (omega arith)
    (λ k b. elim (cases_Bool (p (get_or xs k d))) [
      | inl s ↦
          let e : k ≡ i = only k (omega arith) s in absurd (omega arith)
      | inr s ↦ s
    ])
    (λ _. t) in
    let b : nat_lt (position_or_len p xs) (length xs) ≡ true = rw n (grind arith) in
    rw b (ap (λ m. Some m) n)

-- where it passes nowhere, there is none
pub position-none : {A : Type 0} (p : A → Bool) (xs : List A) (d : A) → ((k : ℕ) → k < length xs
    → p (get_or xs k d) ≡ false) → position p xs ≡ None
position-none p xs d h =
    let n : position_or_len p xs ≡ length xs = position_or_len_is p xs (length xs) d (omega arith) h
    (λ l. absurd (omega arith)) in
    let b : nat_lt (position_or_len p xs) (length xs) ≡ false = rw n (grind arith) in
    rw b refl

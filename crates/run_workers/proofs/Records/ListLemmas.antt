-- Lists of turns with one more, and lists of steps that stay.
use Rattle.std.specs.Prelude.{slice_get}
use Rattle.hop_rule.proofs.Moments.{nth-old}
use Rattle.run_workers.specs.Records.PollingLaws.{OtherTurnsStay}
use Rattle.run_workers.proofs.Names.{◌≡◌, ◌⊎◌, inl, inr, ℕ, zero, suc, List, [], ◌∷◌, ◌++◌}
use Rattle.run_workers.proofs.Names.{if◌then◌else◌, Some, append_assoc, length, map, sym, refl, ap}
use Rattle.run_workers.proofs.Names.{◌∙◌, ◌≤◌, subst, arith, length-append, Contains, map-append}
use Rattle.run_workers.proofs.Names.{Contains-append_right, StepBy, step_by, steps_of, if_same}
use Rattle.run_workers.proofs.Names.{nth_step, none-some, some-is, nth-inside, oldest_first, Grows}

module _ {A : Type 0} where
  pub contains_first : (x : A) (xs : List A) → Contains (x ∷ xs) x
  contains_first x xs = (0, omega arith, refl)

  pub grows_same : (xs ys : List A) → ys ≡ xs → Grows xs ys
  grows_same xs ys same = ([], same)

  pub grows_both : (xs ys zs : List A) → Grows xs ys → Grows ys zs → Grows xs zs
  grows_both xs ys zs (ds, first) (es, second) =
      (es ++ ds, second ∙ (ap (λ ws. es ++ ws) first ∙ sym (append_assoc es ds xs)))

  pub contains_later : (xs ys : List A) (x : A) → Grows xs ys → Contains xs x → Contains ys x
  contains_later xs ys x (ds, is) has =
      subst (λ zs. Contains zs x) (sym is) (Contains-append_right ds xs x has)

  pub nth_later : (xs ys : List A) (n : ℕ) (x : A) → Grows xs ys → nth_step xs n ≡ Some x
      → nth_step ys n ≡ Some x
  nth_later xs ys n x (ds, is) at =
      ap (λ zs. nth_step zs n) is ∙ (nth-old ds xs n (nth-inside xs n x at) ∙ at)

  pub grown_length : (xs ys : List A) → Grows xs ys → length xs ≤ length ys
  grown_length xs ys (ds, is) = let n = length-append ds xs in let m = ap length is in omega arith

-- the turns of the producer of a turn, with that turn
pub own_turn : {A : Type 0} (a : ℕ) (u : A) (ts : List (StepBy A))
    → steps_of a (step_by a u ∷ ts) ≡ u ∷ steps_of a ts
own_turn a u ts = if_same a a (u ∷ steps_of a ts) (steps_of a ts) refl

-- the turns of another producer
pub others_stay : {A : Type 0} → OtherTurnsStay A
others_stay a p ts more other (inl same) = ap (steps_of p) same
others_stay a p ts more other (inr (u, is)) =
    ap (steps_of p) is ∙ ap (λ b. if b then u ∷ steps_of p ts else steps_of p ts) other

-- what is noted of turns, the oldest first, with one more
pub noted_more : {A B : Type 0} (f : A → B) (u : A) (us : List A)
    → map f (oldest_first (u ∷ us)) ≡ map f (oldest_first us) ++ f u ∷ []
noted_more f u us = map-append f (oldest_first us) (u ∷ [])

module _ {A : Type 0} where
  pub append_none : (xs : List A) → xs ++ [] ≡ xs
  append_none [] = refl
  append_none (x ∷ xs) = ap (λ ys. x ∷ ys) (append_none xs)

  -- what is at a place of a list with one more is at that place, or is the last
  pub get_last : (xs : List A) (x : A) (k : ℕ) (y : A) → slice_get (xs ++ x ∷ []) k ≡ Some y
      → (slice_get xs k ≡ Some y) ⊎ ((k ≡ length xs) × (x ≡ y))
  get_last [] x zero y is = inr (refl, some-is x y is)
  get_last [] x (suc k) y is = none-some y is
  get_last (z ∷ xs) x zero y is = inl is
  get_last (z ∷ xs) x (suc k) y is = elim (get_last xs x k y is) [
    | inl there ↦ inl there
    | inr last ↦ inr (ap suc last.0, last.1)
  ]

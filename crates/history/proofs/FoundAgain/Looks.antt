-- What the first of some lists has, where only one of them has anything.
use Rattle.std.proofs.Common.{ℕ, zero, suc, ◌≡◌, ◌≢◌, List, [], ◌∷◌, Option, Some, None, refl, ap}
use Rattle.std.proofs.Common.{◌∙◌, sym, arith, inl, inr, get_or}
use Rattle.std.specs.Option.{option_or}
use Rattle.std.proofs.lemmas.Bool.{cases_eq}
use Rattle.history.specs.Finding.{first_some}

or_none : {B : Type 0} (o : Option B) → option_or o None ≡ o
or_none None = refl
or_none (Some b) = refl

-- none has anything
pub first_some-none : {A B : Type 0} (look : A → Option B) (d : A) (xs : List A)
    → ((i : ℕ) → look (get_or xs i d) ≡ None) → first_some look xs ≡ None
first_some-none look d [] h = refl
first_some-none look d (x ∷ xs) h =
    ap (λ o. option_or o (first_some look xs)) (h 0) ∙ first_some-none look d xs (λ i. h (suc i))

-- none but that of one number has anything
pub first_some-only : {A B : Type 0} (look : A → Option B) (d : A) → look d ≡ None → (xs : List A)
    (n : ℕ)
    → ((i : ℕ) → i ≢ n → look (get_or xs i d) ≡ None) → first_some look xs ≡ look (get_or xs n d)
first_some-only look d z [] n h = sym z
first_some-only look d z (x ∷ xs) zero h =
    ap (λ o. option_or (look x) o) (first_some-none look d xs
    (λ i. h (suc i) (λ e. omega (arith, e)))) ∙ or_none (look x)
first_some-only look d z (x ∷ xs) (suc n) h =
    ap (λ o. option_or o (first_some look xs)) (h 0 (λ e. omega (arith, e)))
    ∙ first_some-only look d z xs n (λ i ne. h (suc i) (λ e. ne (omega (arith, e))))

-- the first of two rows of lists have the same, and only those of one number have anything: so each
-- two have the same
pub same_looks : {A B : Type 0} (look : A → Option B) (d : A) → look d ≡ None → (xs ys : List A)
    (n : ℕ)
    → ((i : ℕ) → i ≢ n → look (get_or xs i d) ≡ None)
    → ((i : ℕ) → i ≢ n → look (get_or ys i d) ≡ None)
    → first_some look xs ≡ first_some look ys → (i : ℕ) → look (get_or xs i d) ≡ look
    (get_or ys i d)
same_looks look d z xs ys n h k e i = elim (cases_eq i n) [
  | inl f ↦ rw f (sym (first_some-only look d z xs n h) ∙ e ∙ first_some-only look d z ys n k)
  | inr ne ↦ h i ne ∙ sym (k i ne)
]

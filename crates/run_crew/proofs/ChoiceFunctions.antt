-- Functions made of what each number below a bound has.
use Rattle.run_crew.proofs.Names.{◌≡◌, ◌⊎◌, inl, inr, ℕ, ◌<◌, ◌≤◌, List, [], ◌∷◌, Option, Some}
use Rattle.run_crew.proofs.Names.{zero, None, suc, length, refl, ap, subst, arith, All, slice_get}
use Rattle.run_crew.proofs.Names.{cases_lt, All-head, All-tail}

module _ {A : Type 0} (P : ℕ → A → Type 0) (n : ℕ) (other : A)
    (below : (k : ℕ) → k < n → (a : A) × P k a) (beyond : (k : ℕ) → n ≤ k → P k other) where
  by-cases : (k : ℕ) → (k < n) ⊎ (n ≤ k) → (a : A) × P k a
  by-cases k (inl less) = below k less
  by-cases k (inr more) = (other, beyond k more)

  -- a function whose value at each number has the property
  pub chosen : (f : ℕ → A) × ((k : ℕ) → P k (f k))
  chosen = (λ k. (by-cases k (cases_lt k n)).0, λ k. (by-cases k (cases_lt k n)).1)

abbrev or_else : {A : Type 0} → A → Option A → A
or_else x None = x
or_else x (Some z) = z

pub some-is : {A : Type 0} (x y : A) → Some x ≡ Some y → x ≡ y
some-is x y same = ap (or_else x) same

pub none-some : {A B : Type 0} (x : A) → None ≡ Some x → B
none-some x e = cc

-- the item at a place within a list
pub item-at : {A : Type 0} (xs : List A) (k : ℕ) → k < length xs
    → (x : A) × (slice_get xs k ≡ Some x)
item-at [] k less = absurd (omega arith)
item-at (x ∷ xs) zero less = (x, refl)
item-at (x ∷ xs) (suc k) less = item-at xs k (omega arith)

pub is-within : {A : Type 0} (xs : List A) (k : ℕ) (x : A) → slice_get xs k ≡ Some x
    → k < length xs
is-within [] k x there = none-some x there
is-within (y ∷ xs) zero x there = omega arith
is-within (y ∷ xs) (suc k) x there = let rest = is-within xs k x there in omega (arith, rest)

-- what holds of all items holds of that at a place
pub at-place : {A : Type 0} (P : A → Type 0) (xs : List A) (k : ℕ) (x : A) → All P xs
    → slice_get xs k ≡ Some x → P x
at-place P [] k x all there = none-some x there
at-place P (y ∷ ys) zero x all there =
    subst P (some-is y x there) (All-head P y ys all)
at-place P (y ∷ ys) (suc k) x all there = at-place P ys k x (All-tail P y ys all) there

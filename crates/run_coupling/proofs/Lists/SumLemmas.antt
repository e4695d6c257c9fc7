-- Sums of counts: where none of some numbers is above its bound and the sums are equal, each is its
-- bound.
use Rattle.run_coupling.proofs.Names.{◌≡◌, ℕ, suc, zero, ◌+◌, ◌<◌, ◌≤◌, sym, refl, ap, ◌∙◌, subst}
use Rattle.run_coupling.proofs.Names.{arith, inl, inr, cases_eq, sum_below}

pub sum-le : (f g : ℕ → ℕ) (n : ℕ) → ((k : ℕ) → k < n → f k ≤ g k) → sum_below f n ≤ sum_below g n
sum-le f g zero below = omega arith
sum-le f g (suc n) below =
    let a = sum-le f g n (λ k less. below k (omega arith)) in
    let b = below n (omega arith) in omega arith

pub each-equal : (f g : ℕ → ℕ) (n : ℕ) → ((k : ℕ) → k < n → f k ≤ g k)
    → sum_below f n ≡ sum_below g n → (k : ℕ) → k < n → f k ≡ g k
each-equal f g zero below same k less = absurd (omega arith)
each-equal f g (suc n) below same k less =
    let a = sum-le f g n (λ j small. below j (omega arith)) in
    let b = below n (omega arith) in
    elim (cases_eq k n) [
      | inl e ↦ (let top : f n ≡ g n = omega arith in subst (λ m. f m ≡ g m) (sym e) top)
      | inr ne ↦
          (let small : k < n = lower k n less ne in
          each-equal f g n (λ j l. below j (omega arith)) (omega arith) k small)
    ]
  where
    lower : (k n : ℕ) → k < suc n → (k ≡ n → ⊥) → k < n
    lower k n less ne = omega arith

pub sum-plus : (f g : ℕ → ℕ) (n : ℕ) → sum_below (λ k. f k + g k) n ≡ sum_below f n + sum_below g n
sum-plus f g zero = refl
sum-plus f g (suc n) = let a = sum-plus f g n in omega arith

-- a sum of sums, the other way round
pub sum-swap : (f : ℕ → ℕ → ℕ) (m n : ℕ)
    → sum_below (λ k. sum_below (f k) n) m ≡ sum_below (λ j. sum_below (λ k. f k j) m) n
sum-swap f m zero = zeros m
  where
    zeros : (m : ℕ) → sum_below (λ k. 0) m ≡ 0
    zeros zero = refl
    zeros (suc m) = let a = zeros m in omega arith
sum-swap f m (suc n) =
    sum-plus (λ k. sum_below (f k) n) (λ k. f k n) m
    ∙ ap (λ s. s + sum_below (λ k. f k n) m) (sum-swap f m n)

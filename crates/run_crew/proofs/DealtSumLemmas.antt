-- A count of the actors of all workers, summed by workers, and by the actors' numbers.
use Rattle.std.specs.List.{sum_by}
use Rattle.std.proofs.lemmas.List.Sums.{sum_by-cons}
use Rattle.std.proofs.lemmas.Nat.{div-mul-add, mod-mul-add}
use native.Mathlib.Nat as nat
use Rattle.run_coupling.proofs.Lists.SumLemmas.{sum-swap}
use Rattle.run_crew.proofs.Names.{◌≡◌, ◌⊎◌, inl, inr, ℕ, zero, suc, ◌+◌, ◌-◌, ◌*◌, ◌/◌, ◌%◌, ◌<◌}
use Rattle.run_crew.proofs.Names.{◌≤◌, List, [], ◌∷◌, Option, Some, None, length, sym, refl, ap}
use Rattle.run_crew.proofs.Names.{◌∙◌, arith, slice_get, cases_lt, sum_below, sum_same, actor_of}
use Rattle.run_crew.proofs.Names.{played, Seated}
use Rattle.run_crew.proofs.ChoiceFunctions.{item-at, none-some}

-- ---- sums below a number

sum-first : (f : ℕ → ℕ) (n : ℕ) → sum_below f (suc n) ≡ f 0 + sum_below (λ k. f (suc k)) n
sum-first f zero = omega arith
sum-first f (suc n) = let rest = sum-first f n in omega (arith, rest)

sum-append : (f : ℕ → ℕ) (m n : ℕ)
    → sum_below f (m + n) ≡ sum_below f m + sum_below (λ k. f (m + k)) n
sum-append f m zero = ap (sum_below f) (nat.add-zero m) ∙ omega arith
sum-append f m (suc n) =
    let rest = sum-append f m n in
    ap (sum_below f) (nat.add-suc m n) ∙ omega (arith, rest)

sum-none : (f : ℕ → ℕ) (n : ℕ) → ((k : ℕ) → k < n → f k ≡ 0) → sum_below f n ≡ 0
sum-none f zero none = refl
sum-none f (suc n) none =
    let rest = sum-none f n (λ k less. none k (omega (arith, less))) in
    let last = none n (omega arith) in
    omega (arith, rest, last)

-- a sum with nothing from some number on
sum-beyond : (f : ℕ → ℕ) (m n : ℕ) → m ≤ n → ((k : ℕ) → m ≤ k → f k ≡ 0)
    → sum_below f n ≡ sum_below f m
sum-beyond f m n less none =
    let whole : n ≡ m + (n - m) = omega (arith, less) in
    let rest = sum-none (λ k. f (m + k)) (n - m) (λ k low. none (m + k) (omega arith)) in
    let both = sum-append f m (n - m) in
    ap (sum_below f) whole ∙ omega (arith, both, rest)

-- a sum by rows, each of w numbers
sum-rows : (g : ℕ → ℕ → ℕ) (w k : ℕ)
    → sum_below (λ n. g (n % w) (n / w)) (k * w) ≡ sum_below (λ j. sum_below (λ i. g i j) w) k
sum-rows g w zero = ap (sum_below (λ n. g (n % w) (n / w))) (nat.zero-mul w)
sum-rows g w (suc k) =
    let rest = sum-rows g w k in
    let both = sum-append (λ n. g (n % w) (n / w)) (k * w) w in
    let row = sum_same (λ i. g ((k * w + i) % w) ((k * w + i) / w)) (λ i. g i k) w
    (λ i less.
    ap (λ a. g a ((k * w + i) / w)) (mod-mul-add k w i less)
    ∙ ap (λ b. g i b) (div-mul-add k w i less)) in
    ap (sum_below (λ n. g (n % w) (n / w))) (nat.suc-mul k w) ∙ omega (arith, rest, both, row)

-- ---- sums over a list

pub sum_by-plus : {A : Type 0} (f g : A → ℕ) (xs : List A)
    → sum_by (λ x. f x + g x) xs ≡ sum_by f xs + sum_by g xs
sum_by-plus f g [] = refl
sum_by-plus f g (x ∷ xs) =
    let rest = sum_by-plus f g xs in
    let a = sum_by-cons (λ x. f x + g x) x xs in
    let b = sum_by-cons f x xs in
    let c = sum_by-cons g x xs in
    omega (arith, rest, a, b, c)

-- a count of each item, by place; there is none where there is no item
sum-places : {A : Type 0} (count : Option A → ℕ) (xs : List A) (n : ℕ) → count None ≡ 0
    → length xs ≤ n → sum_by (λ x. count (Some x)) xs ≡ sum_below (λ k. count (slice_get xs k)) n
sum-places count [] n none few = sym (sum-none (λ k. count None) n (λ k less. none))
sum-places count (x ∷ xs) zero none few = absurd (omega (arith, few))
sum-places count (x ∷ xs) (suc n) none few =
    let rest = sum-places count xs n none (omega (arith, few)) in
    let first = sum-first (λ k. count (slice_get (x ∷ xs) k)) n in
    let one = sum_by-cons (λ x. count (Some x)) x xs in
    omega (arith, rest, first, one)

-- ---- sums over all workers

-- The actors of a kind have numbers below n: the k-th of worker w has the number k * workers + w.
module _ {A : Type 0} (crew : List Seated) (kind : Seated → List A) (count : Option A → ℕ) (n : ℕ)
    (none : count None ≡ 0) (some : 0 < length crew)
    (low : (w k : ℕ) (x : Seated) (a : A) → slice_get crew w ≡ Some x
    → slice_get (kind x) k ≡ Some a → k * length crew + w < n) where
  abbrev W : ℕ
  W = length crew

  abbrev at : ℕ → ℕ → ℕ
  at w k = count (actor_of kind (slice_get crew w) k)

  few : (w : ℕ) (x : Seated) → slice_get crew w ≡ Some x → length (kind x) ≤ n
  few w x there = by_case (cases_lt n (length (kind x)))
    where
      by_case : (n < length (kind x)) ⊎ (length (kind x) ≤ n) → length (kind x) ≤ n
      by_case (inr most) = most
      by_case (inl more) =
          let a = item-at (kind x) n more in
          let beyond = low w n x a.0 there a.1 in
          let rows = nat.le-mul_of_pos_right n some in
          absurd (omega (arith, beyond, rows))

  abbrev by_worker : Option Seated → ℕ
  by_worker None = 0
  by_worker (Some x) = sum_by (λ a. count (Some a)) (kind x)

  one-worker : (w : ℕ) (o : Option Seated) → slice_get crew w ≡ o
      → by_worker o ≡ sum_below (λ k. count (actor_of kind o k)) n
  one-worker w None there = sym (sum-none (λ k. count None) n (λ k less. none))
  one-worker w (Some x) there = sum-places count (kind x) n none (few w x there)

  -- no actor has a number beyond
  beyond : (m : ℕ) (o : Option Seated) (p : Option A) → slice_get crew (m % W) ≡ o
      → actor_of kind o (m / W) ≡ p → n ≤ m → count p ≡ 0
  beyond m o None there is more = none
  beyond m None (Some a) there is more = none-some a is
  beyond m (Some x) (Some a) there is more =
      let less = low (m % W) (m / W) x a there is in
      let back = nat.mod-add-div' m W in
      absurd (omega (arith, less, back, more))

  pub dealt-sum : sum_by (λ x. sum_by (λ a. count (Some a)) (kind x)) crew
      ≡ sum_below (λ m. count (played crew kind m)) n
  dealt-sum =
      let all = sum-places by_worker crew W refl (omega arith) in
      let workers = sum_same (λ w. by_worker (slice_get crew w)) (λ w. sum_below (at w) n) W
      (λ w less. one-worker w (slice_get crew w) refl) in
      let turned = sum-swap at W n in
      let rows = sum-rows at W n in
      let rest = sum-beyond (λ m. at (m % W) (m / W)) n (n * W)
      (nat.le-mul_of_pos_right n some)
      (λ m more. beyond m (slice_get crew (m % W))
      (actor_of kind (slice_get crew (m % W)) (m / W)) refl refl more) in
      all ∙ (workers ∙ (turned ∙ (sym rows ∙ rest)))

-- Order of two lists of which a part is looked at.
use Rattle.std.proofs.lemmas.Bool.{or_left, or_right}
use Rattle.std.specs.Prelude.{◌||◌, ◌&&◌, filter, map}
use Rattle.steer_base.specs.Orders.{IsPrefix}
use Rattle.hop_model.{proofs.Pairs.prefix_from_pairs, specs.Pairs.Pairwise}
use Rattle.hop_rule.proofs.Lists.{get-inside}
use Rattle.hop_delivery.proofs.Names.{◌≡◌, inl, inr, ℕ, zero, suc, ◌+◌, ◌<◌, ◌≤◌, Bool, true, false}
use Rattle.hop_delivery.proofs.Names.{List, [], ◌∷◌, length, sym, refl, ap, ◌∙◌, arith, Some, take}
use Rattle.hop_delivery.proofs.Names.{slice_get, slice_index, list_any, range_with_len, cases_Bool}
use Rattle.hop_delivery.proofs.Names.{cases_eq, cases_lt, true≢false, some-is, none-some}

pub get-of : (xs : List ℕ) (i : ℕ) → i < length xs → slice_get xs i ≡ Some (slice_index xs i)
get-of [] i l = absurd (omega arith)
get-of (x ∷ xs) zero l = refl
get-of (x ∷ xs) (suc i) l = get-of xs i (omega arith)

pub both : (x y : Bool) → (x && y) ≡ true → (x ≡ true) × (y ≡ true)
both true y e = (refl, e)
both false y e = absurd (true≢false (sym e))

-- a test that one of a list passes
pub any-at : {A : Type 0} (test : A → Bool) (xs : List A) → list_any test xs ≡ true → (i : ℕ)
    × (x : A) × (slice_get xs i ≡ Some x) × (test x ≡ true)
any-at test [] e = absurd (true≢false (sym e))
any-at test (x ∷ xs) e = elim (cases_Bool (test x)) [
  | inl y ↦ (0, x, refl, y)
  | inr n ↦ (let t = any-at test xs (rw n at e) in (suc t.0, t.1, t.2, t.3))
]

pub any-member : {A : Type 0} (test : A → Bool) (xs : List A) (i : ℕ) (x : A)
    → slice_get xs i ≡ Some x → test x ≡ true → list_any test xs ≡ true
any-member test [] i x at is = none-some x at
any-member test (y ∷ ys) zero x at is = or_left (test y) _ (ap test (some-is y x at) ∙ is)
any-member test (y ∷ ys) (suc i) x at is = or_right (test y) _ (any-member test ys i x at is)

pub any-range : {X : Type 0} (test : X → Bool) (g : ℕ → X) (a n : ℕ)
    → list_any test (map g (range_with_len a n)) ≡ true → (l : ℕ) × (a ≤ l) × (l < a + n)
    × (test (g l) ≡ true)
any-range test g a zero e = absurd (true≢false (sym e))
any-range test g a (suc n) e = elim (cases_Bool (test (g a))) [
  | inl y ↦ (a, omega arith, omega arith, y)
  | inr no_ ↦ (let t = any-range test g (a + 1) n (rw no_ at e) in let u = t.1 in let v =
      t.2 in (t.0, omega arith, omega arith, t.3))
]

pub range-any : {X : Type 0} (test : X → Bool) (g : ℕ → X) (a n l : ℕ) → a ≤ l → l < a + n
    → test (g l) ≡ true → list_any test (map g (range_with_len a n)) ≡ true
range-any test g a zero l from to e = absurd (omega arith)
range-any test g a (suc n) l from to e = elim (cases_eq l a) [
  | inl is ↦ or_left (test (g a)) _ (ap (λ z. test (g z)) (sym is) ∙ e)
  | inr ne ↦ or_right (test (g a)) _ (range-any test g (a + 1) n l (omega arith) (omega arith) e)
]

module _ (f : ℕ → Bool) where
  -- how many of the first j pass
  abbrev rank : List ℕ → ℕ → ℕ
  rank xs j = length (filter f (take j xs))

  filter-at : (xs : List ℕ) (j x : ℕ) → slice_get xs j ≡ Some x → f x ≡ true
      → slice_get (filter f xs) (rank xs j) ≡ Some x
  filter-at [] j x at yes_ = none-some x at
  filter-at (y ∷ ys) zero x at yes_ = let e : f y ≡ true = ap f (some-is y x at) ∙ yes_ in rw e at
  filter-at (y ∷ ys) (suc j) x at yes_ = elim (cases_Bool (f y)) [
    | inl e ↦ rw e (filter-at ys j x at yes_)
    | inr e ↦ rw e (filter-at ys j x at yes_)
  ]

  filter-from : (xs : List ℕ) (i x : ℕ) → slice_get (filter f xs) i ≡ Some x → (j : ℕ)
      × (slice_get xs j ≡ Some x) × (f x ≡ true) × (rank xs j ≡ i)
  filter-from [] i x at = none-some x at
  filter-from (y ∷ ys) zero x at = elim (cases_Bool (f y)) [
    | inl e ↦ (let a : Some y ≡ Some x = rw e at at in (0, a, ap f (sym (some-is y x a)) ∙ e, refl))
    | inr e ↦ (let t = filter-from ys zero x (rw e at at) in (suc t.0, t.1, t.2, rw e t.3))
  ]
  filter-from (y ∷ ys) (suc i) x at = elim (cases_Bool (f y)) [
    | inl e ↦ (let t = filter-from ys i x (rw e at at) in (suc t.0, t.1, t.2, rw e (ap suc t.3)))
    | inr e ↦ (let t = filter-from ys (suc i) x (rw e at at) in (suc t.0, t.1, t.2, rw e t.3))
  ]

  rank-le : (xs : List ℕ) (i j : ℕ) → i ≤ j → rank xs i ≤ rank xs j
  rank-le [] i j le = let a : rank [] i ≡ 0 = none i in let b : rank [] j ≡ 0 = none j in
      omega arith where
        none : (k : ℕ) → rank [] k ≡ 0
        none zero = refl
        none (suc k) = refl
  rank-le (x ∷ xs) zero j le = omega arith
  rank-le (x ∷ xs) (suc i) zero le = absurd (omega arith)
  rank-le (x ∷ xs) (suc i) (suc j) le = let t = rank-le xs i j (omega arith) in
      elim (cases_Bool (f x)) [ inl e ↦ rw e (omega arith) | inr e ↦ rw e t ]

  rank-lt : (xs : List ℕ) (i j x : ℕ) → i < j → slice_get xs i ≡ Some x → f x ≡ true
      → rank xs i < rank xs j
  rank-lt [] i j x l at yes_ = none-some x at
  rank-lt (y ∷ ys) i zero x l at yes_ = absurd (omega arith)
  rank-lt (y ∷ ys) zero (suc j) x l at yes_ = let e : f y ≡ true = ap f (some-is y x at) ∙ yes_ in
      rw e (omega arith)
  rank-lt (y ∷ ys) (suc i) (suc j) x l at yes_ = let t = rank-lt ys i j x (omega arith) at yes_ in
      elim (cases_Bool (f y)) [ inl e ↦ rw e (omega arith) | inr e ↦ rw e t ]

  rank-back : (xs : List ℕ) (i j : ℕ) → rank xs i < rank xs j → i < j
  rank-back xs i j l = elim
      (cases_lt i j) [ inl a ↦ a | inr b ↦ (let c = rank-le xs j i b in absurd (omega arith)) ]

  rank-one : (xs : List ℕ) (i j x y : ℕ) → slice_get xs i ≡ Some x → slice_get xs j ≡ Some y
      → f x ≡ true → f y ≡ true → rank xs i ≡ rank xs j → i ≡ j
  rank-one xs i j x y at at' yes_ yes' same = elim (cases_eq i j) [
    | inl e ↦ e
    | inr ne ↦ elim (cases_lt i j) [
      | inl l ↦ (let t = rank-lt xs i j x l at yes_ in absurd (omega arith))
      | inr g ↦ (let t = rank-lt xs j i y (omega arith) at' yes' in absurd (omega arith))
    ]
  ]

-- Those of a list that pass a test are a prefix of those of another that pass a second one.
module _ (f g : ℕ → Bool) (all given : List ℕ)
    (once : (i j x : ℕ) → slice_get all i ≡ Some x → slice_get all j ≡ Some x → i ≡ j)
    (once_there : (i j x : ℕ) → f x ≡ true → slice_get given i ≡ Some x → slice_get given j ≡ Some x
    → i ≡ j) (from : (k x : ℕ) → slice_get given k ≡ Some x → f x ≡ true → (i : ℕ)
    × (slice_get all i ≡ Some x) × (g x ≡ true))
    (earlier : (i j k x y : ℕ) → i < j → slice_get all i ≡ Some x → g x ≡ true
    → slice_get all j ≡ Some y → g y ≡ true → slice_get given k ≡ Some y → (l : ℕ) × (l < k)
    × (slice_get given l ≡ Some x) × (f x ≡ true)) where
  abbrev xs : List ℕ
  xs = filter g all

  abbrev ys : List ℕ
  ys = filter f given

  index-of : (zs : List ℕ) (i x : ℕ) → slice_get zs i ≡ Some x → (i < length zs)
      × (slice_index zs i ≡ x)
  index-of zs i x at = get-inside zs i x at

  pairwise : Pairwise xs ys
  pairwise = record {
    once = λ i j il jl e. (
        let a = filter-from g all i (slice_index xs i) (get-of xs i il) in
        let b = filter-from g all j (slice_index xs i) (get-of xs j jl ∙ ap Some (sym e)) in
        let k = once a.0 b.0 (slice_index xs i) a.1 b.1 in sym a.3 ∙ (ap (rank g all) k ∙ b.3));
    once_there = λ i j il jl e. (
        let a = filter-from f given i (slice_index ys i) (get-of ys i il) in
        let b = filter-from f given j (slice_index ys i) (get-of ys j jl ∙ ap Some (sym e)) in
        let k = once_there a.0 b.0 (slice_index ys i) a.2 a.1 b.1 in
        sym a.3 ∙ (ap (rank f given) k ∙ b.3));
    from = λ j jl. (
        let b = filter-from f given j (slice_index ys j) (get-of ys j jl) in
        let a = from b.0 (slice_index ys j) b.1 b.2 in
        let h = index-of xs (rank g all a.0) (slice_index ys j)
        (filter-at g all a.0 (slice_index ys j) a.1 a.2) in (rank g all a.0, h.0, h.1));
    earlier = λ i k j ik kl jl e. (
        let a = filter-from g all i (slice_index xs i) (get-of xs i (omega arith)) in
        let c = filter-from g all k (slice_index xs k) (get-of xs k kl) in
        let b = filter-from f given j (slice_index ys j) (get-of ys j jl) in
        let ac : a.0 < c.0 = rank-back g all a.0 c.0 (let u = a.3 in let v = c.3 in omega arith)
        in
        let t = earlier a.0 c.0 b.0 (slice_index xs i) (slice_index xs k) ac a.1 a.2 c.1 c.2
        (b.1 ∙ ap Some (sym e)) in
        let h = index-of ys (rank f given t.0) (slice_index xs i)
        (filter-at f given t.0 (slice_index xs i) t.2 t.3) in
        let lt = rank-lt f given t.0 b.0 (slice_index xs i) t.1 t.2 t.3 in
        (rank f given t.0, (let v = b.3 in omega arith), h.1));
  }

  pub prefix_of_parts : IsPrefix ys xs
  prefix_of_parts = prefix_from_pairs xs ys pairwise

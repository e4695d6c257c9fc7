-- Items of lists by their index, and one hand of several replaced.
use Rattle.std.specs.List.{slice_get}
use native.Mathlib.Nat as nat
use Rattle.workers.proofs.Names.{◌≡◌, ◌≢◌, ℕ, zero, suc, ◌*◌, ◌/◌, ◌%◌, ◌<◌, ◌≤◌, List, [], ◌∷◌}
use Rattle.workers.proofs.Names.{◌++◌, Option, Some, None, length, map, take, drop, sym, refl, ap}
use Rattle.workers.proofs.Names.{arith, slice_index_or, slice_set, hand_at}

module _ {A : Type 0} where
  pub none-some : {x : A} → None ≡ Some x → ⊥
  none-some e = cc

  pub get-below : (n k : ℕ) (xs : List A) → k < n → slice_get (take n xs) k ≡ slice_get xs k
  get-below zero k xs less = absurd (omega arith)
  get-below (suc n) k [] less = refl
  get-below (suc n) zero (x ∷ xs) less = refl
  get-below (suc n) (suc k) (x ∷ xs) less = get-below n k xs (omega arith)

  pub get-past : (n k : ℕ) (xs : List A) → n ≤ k → slice_get (take n xs) k ≡ None
  get-past zero k xs more = refl
  get-past (suc n) k [] more = refl
  get-past (suc n) zero (x ∷ xs) more = absurd (omega arith)
  get-past (suc n) (suc k) (x ∷ xs) more = get-past n k xs (omega arith)

  -- an item that is not the last of a front is in the front without it
  pub get-not-last : (n k : ℕ) (xs : List A) → k ≢ n
      → slice_get (take (suc n) xs) k ≡ slice_get (take n xs) k
  get-not-last zero zero xs other = absurd (other refl)
  get-not-last (suc n) k [] other = refl
  get-not-last zero (suc k) [] other = refl
  get-not-last zero (suc k) (x ∷ xs) other = refl
  get-not-last (suc n) zero (x ∷ xs) other = refl
  get-not-last (suc n) (suc k) (x ∷ xs) other =
      get-not-last n k xs (λ same. other (ap suc same))

  pub get-end : (xs : List A) (x : A) → slice_get (xs ++ x ∷ []) (length xs) ≡ Some x
  get-end [] x = refl
  get-end (y ∷ xs) x = get-end xs x

  pub get-front : (xs ys : List A) (k : ℕ) → k < length xs → slice_get (xs ++ ys) k ≡ slice_get xs k
  get-front [] ys k less = absurd (omega arith)
  get-front (x ∷ xs) ys zero less = refl
  get-front (x ∷ xs) ys (suc k) less = get-front xs ys k (omega arith)

  pub get-beyond : (xs : List A) (k : ℕ) → length xs ≤ k → slice_get xs k ≡ None
  get-beyond [] k more = refl
  get-beyond (x ∷ xs) zero more = absurd (omega arith)
  get-beyond (x ∷ xs) (suc k) more = get-beyond xs k (omega arith)

  pub get-other : (xs : List A) (x : A) (k : ℕ) → k ≢ length xs
      → slice_get (xs ++ x ∷ []) k ≡ slice_get xs k
  get-other [] x zero other = absurd (other refl)
  get-other [] x (suc k) other = refl
  get-other (y ∷ xs) x zero other = refl
  get-other (y ∷ xs) x (suc k) other = get-other xs x k (λ same. other (ap suc same))

  pub size-by-none : (xs : List A) → slice_get xs 0 ≡ None → length xs ≡ 0
  size-by-none [] none = refl
  size-by-none (x ∷ xs) none = absurd (none-some (sym none))

  -- a list with an item at a place and none behind it ends there
  pub size-by-end : (xs : List A) (k : ℕ) (x : A) → slice_get xs k ≡ Some x
      → slice_get xs (suc k) ≡ None → length xs ≡ suc k
  size-by-end [] k x there beyond = absurd (none-some there)
  size-by-end (y ∷ []) zero x there beyond = refl
  size-by-end (y ∷ z ∷ ys) zero x there beyond = absurd (none-some (sym beyond))
  size-by-end (y ∷ ys) (suc k) x there beyond = ap suc (size-by-end ys k x there beyond)

  abbrev pub onto : List A → Option A → List A
  onto xs None = []
  onto xs (Some z) = z ∷ xs

  pub drop-one : (n : ℕ) (xs : List A) (x : A) → slice_get xs n ≡ Some x
      → drop n xs ≡ x ∷ drop (suc n) xs
  drop-one zero [] x there = absurd (none-some there)
  drop-one (suc n) [] x there = absurd (none-some there)
  drop-one zero (y ∷ xs) x there = ap (onto xs) there
  drop-one (suc n) (y ∷ xs) x there = drop-one n xs x there

  -- ---- one hand replaced

  pub hand-set : (hs : List (List A)) (w : ℕ) (ys : List A) → w < length hs
      → hand_at (slice_set hs w ys) w ≡ ys
  hand-set [] w ys less = absurd (omega arith)
  hand-set (h ∷ hs) zero ys less = refl
  hand-set (h ∷ hs) (suc w) ys less = hand-set hs w ys (omega arith)

  pub hand-other : (hs : List (List A)) (w v : ℕ) (ys : List A) → v ≢ w
      → hand_at (slice_set hs w ys) v ≡ hand_at hs v
  hand-other [] w v ys other = refl
  hand-other (h ∷ hs) zero zero ys other = absurd (other refl)
  hand-other (h ∷ hs) zero (suc v) ys other = refl
  hand-other (h ∷ hs) (suc w) zero ys other = refl
  hand-other (h ∷ hs) (suc w) (suc v) ys other =
      hand-other hs w v ys (λ same. other (ap suc same))

  pub size-set : (hs : List (List A)) (w : ℕ) (ys : List A)
      → length (slice_set hs w ys) ≡ length hs
  size-set [] w ys = refl
  size-set (h ∷ hs) zero ys = refl
  size-set (h ∷ hs) (suc w) ys = ap suc (size-set hs w ys)

-- ---- quotients

-- a number with the same rest as n and no lower quotient is not below n
pub not-below : (m n j : ℕ) → j % m ≡ n % m → n / m ≤ j / m → n ≤ j
not-below m n j rest more =
    let whole = nat.mod-add-div' n m in
    let other = nat.mod-add-div' j m in
    let product : n / m * m ≤ j / m * m = nat.mul-le-mul_right m more in
    omega (arith, whole, other, product, rest)

-- ---- hands of a program

module _ {A V : Type 0} (f : V → List A) where
  pub map-set : (xs : List V) (k : ℕ) (v : V)
      → map f (slice_set xs k v) ≡ slice_set (map f xs) k (f v)
  map-set [] k v = refl
  map-set (x ∷ xs) zero v = refl
  map-set (x ∷ xs) (suc k) v = ap (λ ys. f x ∷ ys) (map-set xs k v)

  pub hand-of : (xs : List V) (k : ℕ) (d : V) → k < length xs
      → hand_at (map f xs) k ≡ f (slice_index_or xs k d)
  hand-of [] k d less = absurd (omega arith)
  hand-of (x ∷ xs) zero d less = refl
  hand-of (x ∷ xs) (suc k) d less = hand-of xs k d (omega arith)

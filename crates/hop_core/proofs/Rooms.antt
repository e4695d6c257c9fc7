-- Distinct numbers below n are at most n.
use Rattle.std.proofs.Common.{ℕ, ◌+◌, ◌≤◌, ◌<◌, ◌≡◌, ◌≢◌, true, false, List, [], ◌∷◌, ◌++◌, length}
use Rattle.std.proofs.Common.{sym, arith, suc, inl, inr, get_or, eqb}
use Rattle.std.specs.List.{IsDistinct, AllByRecursion, list_any}
use Rattle.std.proofs.lemmas.List.{length-append, append-nil}
use Rattle.std.proofs.lemmas.Bool.{ne_eqb, eqb-true, or_cases}
use Rattle.std.proofs.lemmas.Map.Keys.{IsDistinct-cons}
use Rattle.std.proofs.lemmas.Map.Steps.{length-le_from_distinct_below}

others : (x : ℕ) (xs : List ℕ) → ((j : ℕ) → j < length xs → get_or xs j 0 ≢ x) → AllByRecursion
    (λ y. eqb x y ≡ false) xs
others x [] h = tt
others x (y ∷ ys) h = (
  ne_eqb x y (λ e. h 0 (omega arith) (sym e)),
  others x ys
      (λ j in'. h (suc j) (omega arith)),
)

pub distinct_none : IsDistinct eqb []
unfolding IsDistinct
distinct_none = tt

pub both : (P : ℕ → Type 0) (xs ys : List ℕ) → AllByRecursion P xs → AllByRecursion P ys
    → AllByRecursion P (xs ++ ys)
both P [] ys a b = b
both P (x ∷ xs) ys a b = (a.0, both P xs ys a.1 b)

pub distinct : (xs ys : List ℕ) → ((i j : ℕ) → i < length xs → j < length xs
    → get_or xs i 0 ≡ get_or xs j 0 → i ≡ j)
    → ((i j : ℕ) → i < length xs → j < length ys → get_or xs i 0 ≢ get_or ys j 0)
    → IsDistinct eqb ys → IsDistinct eqb (xs ++ ys)
distinct [] ys one apart h = h
distinct (x ∷ xs) ys one apart h =
    IsDistinct-cons eqb x (xs ++ ys)
    (both (λ y. eqb x y ≡ false) xs ys (others x xs (λ j in' e. let f : suc j ≡ 0 = one (suc j) 0
    (omega arith) (omega arith) e in omega arith))
    (others x ys (λ j in' e. apart 0 j (omega arith) in' (sym e))))
    (distinct xs ys (λ i j a b e. let f : suc i ≡ suc j = one (suc i) (suc j) (omega arith)
    (omega arith) e in omega arith) (λ i j a b. apart (suc i) j (omega arith) b) h)

pub below : (n : ℕ) (xs : List ℕ) → AllByRecursion (λ y. y < n) xs → (q : ℕ)
    → list_any (eqb q) xs ≡ true → q < n
below n [] h q e = absurd cc
below n (x ∷ xs) h q e =
    elim (or_cases (eqb q x) (list_any (eqb q) xs) e) [
      | inl f ↦ (let g : q ≡ x = eqb-true q x f in
          rw g h.0)
      | inr f ↦ below n xs h.1 q f
    ]

pub all_below : (n : ℕ) (xs : List ℕ) → ((i : ℕ) → i < length xs → get_or xs i 0 < n)
    → AllByRecursion (λ y. y < n) xs
all_below n [] h = tt
all_below n (x ∷ xs) h = (h 0 (omega arith), all_below n xs (λ i in'. h (suc i) (omega arith)))

-- One more packet, that is in neither list, still has a number: so the two lists have room.
pub room_for : (x n : ℕ) (xs ys : List ℕ) → x < n → ((i : ℕ) → i < length xs → get_or xs i 0 < n)
    → ((i : ℕ) → i < length ys → get_or ys i 0 < n)
    → ((i : ℕ) → i < length xs → get_or xs i 0 ≢ x) → ((i : ℕ) → i < length ys → get_or ys i 0 ≢ x)
    → ((i j : ℕ) → i < length xs → j < length xs → get_or xs i 0 ≡ get_or xs j 0 → i ≡ j)
    → ((i j : ℕ) → i < length ys → j < length ys → get_or ys i 0 ≡ get_or ys j 0 → i ≡ j)
    → ((i j : ℕ) → i < length xs → j < length ys → get_or xs i 0 ≢ get_or ys j 0)
    → length xs + length ys < n
room_for x n xs ys xn xsn ysn nx ny onex oney apart =
    let dy : IsDistinct eqb (ys ++ []) =
    distinct ys [] oney (λ i j a b. absurd (omega arith)) distinct_none in
    let d : IsDistinct eqb (x ∷ (xs ++ (ys ++ []))) = IsDistinct-cons eqb x (xs ++ (ys ++ []))
    (both (λ y. eqb x y ≡ false) xs (ys ++ []) (others x xs nx) (both (λ y. eqb x y ≡ false) ys []
    (others x ys ny) tt))
    (distinct xs (ys ++ []) onex (rw append-nil apart) dy) in
    let l = length-le_from_distinct_below (x ∷ (xs ++ (ys ++ []))) n d
    (below n (x ∷ (xs ++ (ys ++ []))) (
      xn,
      both (λ y. y < n) xs (ys ++ []) (all_below n xs xsn)
          (both (λ y. y < n) ys [] (all_below n ys ysn) tt),
    )) in
    omega (arith, length-append {A = ℕ})

-- distinct numbers below n are at most n
pub room_all : (n : ℕ) (xs : List ℕ) → ((i : ℕ) → i < length xs → get_or xs i 0 < n)
    → ((i j : ℕ) → i < length xs → j < length xs → get_or xs i 0 ≡ get_or xs j 0 → i ≡ j)
    → length xs ≤ n
room_all n xs xsn one =
    rw append-nil at (length-le_from_distinct_below (xs ++ []) n
    (distinct xs [] one (λ i j a b. absurd (omega arith)) distinct_none)
    (below n (xs ++ []) (both (λ y. y < n) xs [] (all_below n xs xsn) tt)))

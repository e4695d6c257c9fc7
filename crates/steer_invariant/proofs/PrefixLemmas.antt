-- Prefixes of growing lists.
use Rattle.std.proofs.Common.{ℕ, ◌≤◌, ◌<◌, ◌≡◌, List, [], ◌∷◌, ◌++◌, length, refl, ap, sym, arith}
use Rattle.std.proofs.Common.{get_or, suc, zero}
use Rattle.steer_base.specs.Orders.{IsPrefix}

abbrev tail_of : List ℕ → List ℕ
tail_of [] = []
tail_of (x ∷ xs) = xs

-- a prefix of a list is one of the list with more behind it
pub prefix-more : (xs ys zs : List ℕ) → IsPrefix xs ys → IsPrefix xs (ys ++ zs)
prefix-more [] ys zs p = (ys ++ zs, refl)
prefix-more (x ∷ xs) [] zs p = absurd (let f : x ∷ (xs ++ p.0) ≡ [] = p.1 in cc)
prefix-more (x ∷ xs) (y ∷ ys) zs p =
    let e : x ≡ y = ap (λ l. get_or l 0 0) p.1 in
    let rest : IsPrefix xs (ys ++ zs) = prefix-more xs ys zs (p.0, ap (λ l. tail_of l) p.1) in
    (rest.0, λ i. e i ∷ rest.1 i)

pub prefix-length : (xs ys : List ℕ) → IsPrefix xs ys → length xs ≤ length ys
prefix-length [] ys p = omega arith
prefix-length (x ∷ xs) [] p = absurd (let f : x ∷ (xs ++ p.0) ≡ [] = p.1 in cc)
prefix-length (x ∷ xs) (y ∷ ys) p =
    let i = prefix-length xs ys (p.0, ap (λ l. tail_of l) p.1) in omega (arith, i)

-- a prefix with the next of the longer list is one too
pub prefix-next : (xs ys : List ℕ) → IsPrefix xs ys → length xs < length ys
    → IsPrefix (xs ++ get_or ys (length xs) 0 ∷ []) ys
prefix-next [] [] p lt = absurd (omega (arith, lt))
prefix-next [] (y ∷ ys) p lt = (ys, refl)
prefix-next (x ∷ xs) [] p lt = absurd (omega (arith, lt))
prefix-next (x ∷ xs) (y ∷ ys) p lt =
    let e : x ≡ y = ap (λ l. get_or l 0 0) p.1 in
    let rest = prefix-next xs ys (p.0, ap (λ l. tail_of l) p.1) (omega (arith, lt)) in
    (rest.0, λ i. e i ∷ rest.1 i)

-- a prefix has the same members at its places
pub prefix-at : (xs ys : List ℕ) (i : ℕ) → IsPrefix xs ys → i < length xs
    → get_or ys i 0 ≡ get_or xs i 0
prefix-at [] ys i p lt = absurd (omega (arith, lt))
prefix-at (x ∷ xs) [] i p lt = absurd (let f : x ∷ (xs ++ p.0) ≡ [] = p.1 in cc)
prefix-at (x ∷ xs) (y ∷ ys) zero p lt = ap (λ l. get_or l 0 0) (sym p.1)
prefix-at (x ∷ xs) (y ∷ ys) (suc i) p lt =
    prefix-at xs ys i (p.0, ap (λ l. tail_of l) p.1) (omega (arith, lt))

-- a prefix that is as long is the list
pub prefix-all : (xs ys : List ℕ) → IsPrefix xs ys → length xs ≡ length ys → xs ≡ ys
prefix-all [] [] p e = refl
prefix-all [] (y ∷ ys) p e = absurd (omega (arith, e))
prefix-all (x ∷ xs) [] p e = absurd (omega (arith, e))
prefix-all (x ∷ xs) (y ∷ ys) p e =
    let first : x ≡ y = ap (λ l. get_or l 0 0) p.1 in
    let rest = prefix-all xs ys (p.0, ap (λ l. tail_of l) p.1) (omega (arith, e)) in
    λ i. first i ∷ rest i

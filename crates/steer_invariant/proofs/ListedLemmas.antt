-- Lists by their items: prefixes, what is among the first, and the first with a key.
use Rattle.std.proofs.Common.{ℕ, zero, suc, ◌≤◌, ◌<◌, ◌≡◌, ◌≢◌, true, List, [], ◌∷◌, Some, length}
use Rattle.std.proofs.Common.{take, refl, ◌∙◌, sym, arith, get_or, inl, inr}
use Rattle.std.proofs.lemmas.Bool.{cases_eq}
use Rattle.steer_base.specs.Orders.{IsPrefix}
use Rattle.history.specs.Finding.{found, is_among}
use Rattle.history.proofs.FindingLemmas.{found-here, found-past, is_in-here, is_in-past}

-- a list is a prefix of one that has the same items at its places
pub prefix-by_items : (xs ys : List ℕ) → length xs ≤ length ys
    → ((i : ℕ) → i < length xs → get_or xs i 0 ≡ get_or ys i 0) → IsPrefix xs ys
prefix-by_items [] ys le h = (ys, refl)
prefix-by_items (x ∷ xs) [] le h = absurd (omega (arith, le))
prefix-by_items (x ∷ xs) (y ∷ ys) le h =
    let e : x ≡ y = h 0 (omega arith) in
    let rest = prefix-by_items xs ys (omega (arith, le)) (λ i l. h (suc i) (omega (arith, l))) in
    (rest.0, λ i. e i ∷ rest.1 i)

-- an item of a list is among its first ones
pub is_among-at : (n : ℕ) (xs : List ℕ) (i : ℕ) → i < n → i < length xs
    → is_among n (get_or xs i 0) xs ≡ true
is_among-at n [] i less lt = absurd (omega (arith, lt))
is_among-at zero (x ∷ xs) i less lt = absurd (omega (arith, less))
is_among-at (suc n) (x ∷ xs) zero less lt = is_in-here x x (take n xs) refl
is_among-at (suc n) (x ∷ xs) (suc i) less lt =
    elim (cases_eq (get_or xs i 0) x) [
      | inl e ↦ is_in-here (get_or xs i 0) x (take n xs) e
      | inr ne ↦
          is_in-past (get_or xs i 0) x (take n xs) ne
          ∙ is_among-at n xs i (omega (arith, less)) (omega (arith, lt))
    ]

-- the first with a key, where none before it has that key
pub found-at : {A : Type 0} (key : A → ℕ) (xs : List A) (i : ℕ) (d : A) → i < length xs
    → ((k : ℕ) → k < i → key (get_or xs k d) ≢ key (get_or xs i d))
    → found key (key (get_or xs i d)) xs ≡ Some (get_or xs i d)
found-at key [] i d lt h = absurd (omega (arith, lt))
found-at key (x ∷ xs) zero d lt h = found-here key (key x) x xs refl
found-at key (x ∷ xs) (suc i) d lt h =
    found-past key (key (get_or xs i d)) x xs (λ e. h 0 (omega arith) (sym e))
    ∙ found-at key xs i d (omega (arith, lt)) (λ k l. h (suc k) (omega (arith, l)))

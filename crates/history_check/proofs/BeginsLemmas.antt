-- Whether a list begins with another, item by item.
use Rattle.std.proofs.Common.{ℕ, ◌≤◌, ◌<◌, ◌≡◌, ◌≢◌, true, false, List, [], ◌∷◌, length, drop, refl}
use Rattle.std.proofs.Common.{sym, suc, get_or}
use Rattle.std.specs.Prelude.{◌==◌}
use Rattle.std.proofs.Math.Seq.{drop-cons}
use Rattle.std.proofs.lemmas.Bool.{eq-eqb, ne_eqb}
use Rattle.std.proofs.lemmas.List.{drop_all}
use Rattle.history.specs.Lists.{arrivals_at}
use Rattle.history_check.specs.Tests.{begins}
use Rattle.history.specs.declared.arrival.Arrival.{Arrival}
use Rattle.history.proofs.FindingLemmas.{arrivals_at-drop}

pub begins-end : (i : ℕ) (xs ys : List ℕ) → length xs ≤ i → begins (drop i xs) ys ≡ true
begins-end i xs ys l = rw (drop_all i xs l) refl

pub begins-short : (i : ℕ) (xs : List ℕ) → i < length xs → begins (drop i xs) [] ≡ false
begins-short i xs l = rw (drop-cons xs i 0 l) refl

pub begins-same : (i : ℕ) (xs ys : List ℕ) (y : ℕ) → i < length xs → get_or xs i 0 ≡ y
    → begins (drop i xs) (y ∷ ys) ≡ begins (drop (suc i) xs) ys
begins-same i xs ys y l e = rw (drop-cons xs i 0 l, eq-eqb (get_or xs i 0) y e) refl

pub begins-other : (i : ℕ) (xs ys : List ℕ) (y : ℕ) → i < length xs → get_or xs i 0 ≢ y
    → begins (drop i xs) (y ∷ ys) ≡ false
begins-other i xs ys y l ne = rw (drop-cons xs i 0 l, ne_eqb (get_or xs i 0) y ne) refl

-- both lists from an index on
pub pair-next : (i j : ℕ) (xs ys : List ℕ) → i < length xs → i < length ys
    → get_or xs i 0 ≡ get_or ys i 0 → j ≡ suc i
    → begins (drop j xs) (drop j ys) ≡ begins (drop i xs) (drop i ys)
pair-next i j xs ys l k e n = rw (n, drop-cons ys i 0 k)
    (sym (begins-same i xs (drop (suc i) ys) (get_or ys i 0) l e))

pub pair-short : (i : ℕ) (xs ys : List ℕ) → i < length xs → length ys ≤ i → begins (drop i xs)
    (drop i ys) ≡ false
pair-short i xs ys l k = rw (drop_all i ys k) (begins-short i xs l)

pub pair-other : (i : ℕ) (xs ys : List ℕ) → i < length xs → i < length ys
    → get_or xs i 0 ≢ get_or ys i 0 → begins (drop i xs) (drop i ys) ≡ false
pair-other i xs ys l k ne = rw (drop-cons ys i 0 k) (begins-other i xs (drop (suc i) ys)
    (get_or ys i 0) l ne)

-- the arrivals of a queue from one arrival on, against what is left of a list
module _ (q i j m : ℕ) (arrivals : List Arrival) (a : Arrival) (xs : List ℕ)
    (below : i < length arrivals) (here : a ≡ get_or arrivals i a) (next : j ≡ suc i) where
  pub arrival-same : (a.queue == q) ≡ true → m < length xs → get_or xs m 0 ≡ a.id
      → begins (drop (suc m) xs) (arrivals_at (drop j arrivals) q) ≡ begins (drop m xs)
      (arrivals_at (drop i arrivals) q)
  arrival-same t l e = rw (arrivals_at-drop q i j arrivals a below here next, t)
      (sym (begins-same m xs (arrivals_at (drop j arrivals) q) a.id l e))

  pub arrival-differs : (a.queue == q) ≡ true → m < length xs → get_or xs m 0 ≢ a.id
      → begins (drop m xs) (arrivals_at (drop i arrivals) q) ≡ false
  arrival-differs t l ne = rw (arrivals_at-drop q i j arrivals a below here next, t)
      (begins-other m xs (arrivals_at (drop j arrivals) q) a.id l ne)

  pub arrival-elsewhere : (a.queue == q) ≡ false → begins (drop m xs)
      (arrivals_at (drop j arrivals) q) ≡ begins (drop m xs) (arrivals_at (drop i arrivals) q)
  arrival-elsewhere t = rw (arrivals_at-drop q i j arrivals a below here next, t) refl

pub arrivals-end : (q i m : ℕ) (arrivals : List Arrival) (xs : List ℕ) → length arrivals ≤ i
    → begins (drop m xs) (arrivals_at (drop i arrivals) q) ≡ begins (drop m xs) []
arrivals-end q i m arrivals xs l = rw (drop_all i arrivals l) refl

-- Lists that threads wrote item by item.
use Rattle.std.specs.Prelude.{slice_get, slice_index_or}
use Rattle.run_crew.proofs.ChoiceFunctions.{none-some, some-is}
use Rattle.workers.proofs.Names.{◌≡◌, ℕ, zero, suc, ◌<◌, List, [], ◌∷◌, ◌++◌, Some, length, take}
use Rattle.workers.proofs.Names.{drop, sym, ap, arith}

pub at-place : {A : Type 0} (xs : List A) (k : ℕ) (x : A) → k < length xs
    → x ≡ slice_index_or xs k x → slice_get xs k ≡ Some x
at-place [] k x less is = absurd (omega (arith, less))
at-place (y ∷ ys) zero x less is = ap Some (sym is)
at-place (y ∷ ys) (suc k) x less is = at-place ys k x (omega (arith, less)) is

pub read-at : {A : Type 0} (xs : List A) (k : ℕ) (d x : A) → slice_get xs k ≡ Some x
    → slice_index_or xs k d ≡ x
read-at [] k d x there = none-some x there
read-at (y ∷ ys) zero d x there = some-is y x there
read-at (y ∷ ys) (suc k) d x there = read-at ys k d x there

-- a list written whole over one of the same length
pub written-whole : {A : Type 0} (n : ℕ) (new old : List A) → n ≡ length old
    → length new ≡ length old → take n (new ++ drop (length new) old) ≡ new
written-whole n [] [] count same = ap (λ k. take k []) count
written-whole n [] (y ∷ ys) count same = absurd (omega (arith, same))
written-whole n (x ∷ xs) [] count same = absurd (omega (arith, same))
written-whole zero (x ∷ xs) (y ∷ ys) count same = absurd (omega (arith, count))
written-whole (suc n) (x ∷ xs) (y ∷ ys) count same =
    ap (λ zs. x ∷ zs) (written-whole n xs ys (omega (arith, count)) (omega (arith, same)))

-- Arrivals in the order of their numbers, found by their places; and lists that are copied one by
-- one.
use Rattle.std.proofs.Common.{ℕ, ◌+◌, ◌≡◌, ◌≢◌, List, [], ◌∷◌, ◌++◌, Some, refl, ap}
use Rattle.std.proofs.Common.{◌∙◌, sym, arith, take, zero, suc}
use Rattle.std.specs.Prelude.{slice_get}
use Rattle.std.proofs.lemmas.List.{take_more}
use Rattle.steer_invariant.proofs.StepInvariant.ReplyLemmas.{read_at}
use Rattle.history.proofs.FindingLemmas.{found-here, found-past}
use Rattle.history.proofs.RegularLemmas.{AreNumbered, numbered-head, numbered-tail}
use Rattle.history.specs.Finding.{found}
use Rattle.history.specs.declared.arrival.Arrival.{Arrival}

found_from : (i j : ℕ) (xs : List Arrival) → AreNumbered i xs → found (λ (a : Arrival). a.id)
    (i + j) xs ≡ slice_get xs j
found_from i j [] e = refl
found_from i zero (a ∷ rest) e =
    let h : a.id ≡ i = numbered-head i a rest e in
    found-here (λ (b : Arrival). b.id) (i + 0) a rest (omega arith)
found_from i (suc j) (a ∷ rest) e =
    let h : a.id ≡ i = numbered-head i a rest e in
    let n : i + suc j ≡ i + 1 + j = omega arith in
    let past : i + suc j ≢ a.id = λ f. omega arith in
    found-past (λ (b : Arrival). b.id) (i + suc j) a rest past
    ∙ ap (λ m. found (λ (b : Arrival). b.id) m rest) n ∙ found_from (i + 1) j rest
    (numbered-tail i a rest e)

-- the arrival of a packet stands at its number, where it arrived
pub found_numbered : (xs : List Arrival) (x : ℕ) → AreNumbered 0 xs
    → found (λ (a : Arrival). a.id) x xs ≡ slice_get xs x
found_numbered xs x e =
    let z : x ≡ 0 + x = omega arith in
    ap (λ n. found (λ (a : Arrival). a.id) n xs) z ∙ found_from 0 x xs e

-- the front of a list with its next item
pub take-next : (xs : List ℕ) (n x : ℕ) → slice_get xs n ≡ Some x → take n xs ++ x ∷ [] ≡ take
    (n + 1) xs
take-next xs n x got =
    let at = read_at xs n x got in
    ap (λ y. take n xs ++ y ∷ []) (sym at.1) ∙ sym (take_more xs n 0 at.0)

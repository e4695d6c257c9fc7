-- Arrivals that are numbered from 0 on.
use Rattle.std.proofs.Common.{ℕ, zero, suc, ◌+◌, ◌<◌, ◌≡◌, false, List, [], ◌∷◌, length, refl, sym}
use Rattle.std.proofs.Common.{arith, inl, inr, get_or, subst}
use Rattle.std.specs.Prelude.{◌==◌}
use Rattle.std.proofs.lemmas.Bool.{cases_Bool}
use Rattle.history.specs.Finding.{is_in, Once}
use Rattle.history.specs.Lists.{no_arrival, arrivals_at}
use Rattle.history.specs.declared.arrival.Arrival.{Arrival}
use Rattle.history.proofs.OwnLemmas.{not-true}
use Rattle.history.proofs.RegularLemmas.{AreNumbered, numbered-head, numbered-tail, at-queue}
use Rattle.history.proofs.SamePlaces.{no_place, Once-none, Once-cons}

pub arrival-id : (i x : ℕ) (arrivals : List Arrival) → AreNumbered i arrivals → x < length arrivals
    → (get_or arrivals x no_arrival).id ≡ i + x
arrival-id i x [] e l = absurd (omega (arith, l))
arrival-id i zero (a ∷ rest) e l = let f = numbered-head i a rest e in omega (arith, f)
arrival-id i (suc x) (a ∷ rest) e l = let f = arrival-id (i + 1) x rest (numbered-tail i a rest e)
    (omega (arith, l)) in omega (arith, f)

-- no packet arrived twice at a queue
once_from : (q i : ℕ) (arrivals : List Arrival) → AreNumbered i arrivals
    → Once (arrivals_at arrivals q)
once_from q i [] e = Once-none
once_from q i (a ∷ rest) e =
    let here = numbered-head i a rest e in
    let tails = numbered-tail i a rest e in
    let ih = once_from q (i + 1) rest tails in
    elim (cases_Bool (a.queue == q)) [
      | inl t ↦
          let l : arrivals_at (a ∷ rest) q ≡ a.id ∷ arrivals_at rest q = rw t refl in
          let lacks : is_in a.id (arrivals_at rest q) ≡ false =
          not-true (is_in a.id (arrivals_at rest q)) (λ g.
          let w = at-queue q a.id (i + 1) rest tails g in omega (arith, w.2, here)) in
          subst Once (sym l) (Once-cons a.id (arrivals_at rest q)
          (no_place a.id (arrivals_at rest q) lacks) ih)
      | inr t ↦ let l : arrivals_at (a ∷ rest) q ≡ arrivals_at rest q =
          rw t refl in subst Once (sym l) ih
    ]

pub arrivals-once : (q : ℕ) (arrivals : List Arrival) → AreNumbered 0 arrivals
    → Once (arrivals_at arrivals q)
arrivals-once q arrivals e = once_from q 0 arrivals e

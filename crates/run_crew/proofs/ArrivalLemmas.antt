-- Arrivals by queues.
use Rattle.std.proofs.lemmas.Bool.{eq-eqb}
use Rattle.run_coupling.proofs.Lists.PlaceLemmas.{if_there, split-arrivals}
use Rattle.run_crew.proofs.Names.{◌≡◌, ℕ, zero, suc, ◌<◌, ◌≤◌, List, [], ◌∷◌, All, length, refl, ap}
use Rattle.run_crew.proofs.Names.{◌∙◌, arith, ne_eqb, All-head, All-tail, arrivals_at, Arrival}
use Rattle.run_crew.proofs.Names.{sum_below}
use Rattle.run_crew.proofs.AcceptedLemmas.{one-more}

-- some queues together have at most all arrivals
pub arrivals-below : (n : ℕ) (arrivals : List Arrival)
    → sum_below (λ q. length (arrivals_at arrivals q)) n ≤ length arrivals
arrivals-below n [] = let none = zeros n in omega (arith, none)
  where
    zeros : (n : ℕ) → sum_below (λ q. 0) n ≡ 0
    zeros zero = refl
    zeros (suc n) = let rest = zeros n in omega (arith, rest)
arrivals-below n (a ∷ rest) =
    let before = arrivals-below n rest in
    let here : length (arrivals_at (a ∷ rest) a.queue) ≡ suc (length (arrivals_at rest a.queue)) =
    ap length (split-arrivals a rest a.queue)
    ∙ ap (λ b. length (if_there b a.id (arrivals_at rest a.queue))) (eq-eqb a.queue a.queue refl)
    in
    let more = one-more (λ q. length (arrivals_at (a ∷ rest) q))
    (λ q. length (arrivals_at rest q)) n
    a.queue here
    (λ q other.
    ap length (split-arrivals a rest q)
    ∙ ap (λ b. length (if_there b a.id (arrivals_at rest q))) (ne_eqb a.queue q other)) in
    omega (arith, before, more)

-- nothing arrived at a queue that there is not
pub none-at : (count : ℕ) (arrivals : List Arrival)
    → All (λ (a : Arrival). a.queue < count) arrivals → (q : ℕ) → count ≤ q
    → arrivals_at arrivals q ≡ []
none-at count [] all q more = refl
none-at count (a ∷ rest) all q more =
    let low = All-head (λ (a : Arrival). a.queue < count) a rest all in
    split-arrivals a rest q
    ∙ (ap (λ b. if_there b a.id (arrivals_at rest q))
    (ne_eqb a.queue q (λ same. omega (arith, low, same, more)))
    ∙ none-at count rest (All-tail (λ (a : Arrival). a.queue < count) a rest all) q more)

-- The arrivals of all queues are all arrivals, so equal totals give each arrival its choice.
use Rattle.history.specs.Lists.{arrivals_at}
use Rattle.hop_rule.proofs.Gates.{sum_one}
use Rattle.run_coupling.specs.Laws.Ends.{ChoicesSuffice}
use Rattle.run_coupling.proofs.Names.{◌≡◌, ℕ, zero, suc, ◌<◌, ◌≤◌, List, [], ◌∷◌, ◌++◌, length, map}
use Rattle.run_coupling.proofs.Names.{All, sym, refl, ap, ◌∙◌, arith, length-append, eq-eqb, ne_eqb}
use Rattle.run_coupling.proofs.Names.{length-map, All-head, All-tail, Chosen, Arrival, sum_below}
use Rattle.run_coupling.proofs.Lists.PlaceLemmas.{if_there, split-arrivals}
use Rattle.run_coupling.proofs.Lists.SumLemmas.{each-equal}

sum_none : (n : ℕ) → sum_below (λ p. 0) n ≡ 0
sum_none zero = refl
sum_none (suc n) = let rest = sum_none n in omega arith

arrivals-sum : (count : ℕ) (arrivals : List Arrival)
    → All (λ (a : Arrival). a.queue < count) arrivals
    → sum_below (λ p. length (arrivals_at arrivals p)) count ≡ length arrivals
arrivals-sum count [] all = sum_none count
arrivals-sum count (a ∷ rest) all =
    let before = arrivals-sum count rest (All-tail (λ (a : Arrival). a.queue < count) a rest all) in
    let here : length (arrivals_at (a ∷ rest) a.queue) ≡ suc (length (arrivals_at rest a.queue)) =
    ap length (split-arrivals a rest a.queue)
    ∙ ap (λ b. length (if_there b a.id (arrivals_at rest a.queue))) (eq-eqb a.queue a.queue refl) in
    let e = sum_one (λ p. length (arrivals_at (a ∷ rest) p)) (λ p. length (arrivals_at rest p))
    count
    a.queue (All-head (λ (a : Arrival). a.queue < count) a rest all)
    (λ p _ ne.
    ap length (split-arrivals a rest p) ∙ ap (λ b. length (if_there b a.id (arrivals_at rest p)))
    (ne_eqb a.queue p (λ q. ne (sym q)))) in
    omega arith

none-of : (xs : List ℕ) → length xs ≡ 0 → xs ≡ []
none-of [] e = refl
none-of (x ∷ xs) e = absurd (omega arith)

append-none : (xs : List ℕ) → xs ++ [] ≡ xs
append-none [] = refl
append-none (x ∷ xs) = ap (λ z. x ∷ z) (append-none xs)

pub choices_suffice : ChoicesSuffice
choices_suffice count arrivals choices all front total p less =
    let ids : ℕ → List ℕ = λ q. map (λ (c : Chosen). c.id) (choices q) in
    let below : (q : ℕ) → q < count → length (choices q) ≤ length (arrivals_at arrivals q) =
    λ q small. (
    let f = front q in
    let size = length-map (choices q) (λ (c : Chosen). c.id) in
    let parts = length-append (ids q) f.0 in
    let whole = ap length f.1 in omega arith) in
    let same = each-equal (λ q. length (choices q)) (λ q. length (arrivals_at arrivals q)) count
    below (total ∙ sym (arrivals-sum count arrivals all)) p less in
    let f = front p in
    let size = length-map (choices p) (λ (c : Chosen). c.id) in
    let parts = length-append (ids p) f.0 in
    let whole = ap length f.1 in
    let none : f.0 ≡ [] = none-of f.0 (omega arith) in
    sym (append-none (ids p)) ∙ (ap (λ z. ids p ++ z) (sym none) ∙ f.1)

-- The numbers of the packets that arrived.
use Rattle.std.specs.Prelude.{◌==◌}
use Rattle.std.proofs.lemmas.List.Elements.{All-cons, All-head, All-tail}
use Rattle.run_coupling.proofs.Lists.PlaceLemmas.{if_there, split-arrivals}
use Rattle.workers.proofs.Names.{◌≡◌, ℕ, zero, suc, ◌+◌, ◌<◌, ◌≤◌, List, [], ◌∷◌, All, Bool, true}
use Rattle.workers.proofs.Names.{false, map, sym, subst, arith, range_with_len, All-nil}
use Rattle.workers.proofs.Names.{arrivals_at, Arrival}

range-below : (from n bound : ℕ) → from + n ≤ bound
    → All (λ (x : ℕ). x < bound) (range_with_len from n)
range-below from zero bound few = All-nil (λ (x : ℕ). x < bound)
range-below from (suc n) bound few =
    All-cons (λ (x : ℕ). x < bound) from (range_with_len (from + 1) n) (omega (arith, few))
    (range-below (from + 1) n bound (omega (arith, few)))

if-below : (bound : ℕ) (b : Bool) (x : ℕ) (xs : List ℕ) → x < bound
    → All (λ (y : ℕ). y < bound) xs → All (λ (y : ℕ). y < bound) (if_there b x xs)
if-below bound true x xs less all = All-cons (λ (y : ℕ). y < bound) x xs less all
if-below bound false x xs less all = all

at-queue-below : (bound : ℕ) (arrivals : List Arrival) (q : ℕ)
    → All (λ (x : ℕ). x < bound) (map (λ (a : Arrival). a.id) arrivals)
    → All (λ (x : ℕ). x < bound) (arrivals_at arrivals q)
at-queue-below bound [] q all = All-nil (λ (x : ℕ). x < bound)
at-queue-below bound (a ∷ rest) q all =
    subst (All (λ (x : ℕ). x < bound)) (sym (split-arrivals a rest q))
    (if-below bound (a.queue == q) a.id (arrivals_at rest q)
    (All-head (λ (x : ℕ). x < bound) a.id (map (λ (b : Arrival). b.id) rest) all)
    (at-queue-below bound rest q
    (All-tail (λ (x : ℕ). x < bound) a.id (map (λ (b : Arrival). b.id) rest) all)))

-- if all packets arrived, those at a queue are packets
pub arrived-below : (n : ℕ) (arrivals : List Arrival) (q : ℕ)
    → map (λ (a : Arrival). a.id) arrivals ≡ range_with_len 0 n
    → All (λ (x : ℕ). x < n) (arrivals_at arrivals q)
arrived-below n arrivals q are =
    at-queue-below n arrivals q
    (subst (All (λ (x : ℕ). x < n)) (sym are) (range-below 0 n n (omega arith)))

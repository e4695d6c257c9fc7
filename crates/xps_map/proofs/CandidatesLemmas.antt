-- There is always a candidate, and each is a transmit queue.
use Rattle.std.proofs.Common.{ℕ, ◌<◌, ◌%◌, Bool, true, List, [], ◌∷◌, Option, length, arith}
use Rattle.std.proofs.Common.{Contains, All, ◌≡◌, ◌∙◌, ap, refl, slice_index, sym}
use Rattle.std.specs.Prelude.{unwrap_or}
use Rattle.std.proofs.lemmas.List.Elements.{Contains-get_or, All-get_or}
use Rattle.std.proofs.Math.Nat.{mod-lt}
use Rattle.steer_base.specs.Sends.{candidates, first_filled, pick_of}
use Rattle.steer_base.specs.Sets.{at_hash, those_below}
use Rattle.steer_base.proofs.SetsLemmas.{those_below-below, length-those_below_all}
use Rattle.steer_base.proofs.SetsLemmas.{slice_index-those_below}

length-first_filled : (xs ys zs : List ℕ) → 0 < length zs → 0 < length (first_filled xs ys zs)
length-first_filled [] [] zs some = some
length-first_filled [] (y ∷ ys) zs some = omega arith
length-first_filled (x ∷ xs) ys zs some = omega arith

All-first_filled : (n : ℕ) (xs ys zs : List ℕ) → All (λ i. i < n) xs → All (λ i. i < n) ys
    → All (λ i. i < n) zs
    → All (λ i. i < n) (first_filled xs ys zs)
All-first_filled n [] [] zs first second third = third
All-first_filled n [] (y ∷ ys) zs first second third = second
All-first_filled n (x ∷ xs) ys zs first second third = first

pub length-candidates : (count : ℕ) (by_queue by_cpu : ℕ → ℕ → Bool) (rxq cpu : ℕ) → 0 < count
    → 0 < length (candidates count by_queue by_cpu rxq cpu)
length-candidates count by_queue by_cpu rxq cpu some =
    let all = length-those_below_all count in
    length-first_filled (those_below count (λ tx. by_queue tx rxq))
    (those_below count (λ tx. by_cpu tx cpu)) (those_below count (λ tx. true)) (omega arith)

pub among : (count : ℕ) (by_queue by_cpu : ℕ → ℕ → Bool) (rxq cpu : ℕ) (hash : Option ℕ) → 0 < count
    → Contains (candidates count by_queue by_cpu rxq cpu)
    (pick_of count by_queue by_cpu rxq cpu hash)
among count by_queue by_cpu rxq cpu hash some =
    let cs : List ℕ = candidates count by_queue by_cpu rxq cpu in
    Contains-get_or cs (unwrap_or hash 0 % length cs) 0 (mod-lt (unwrap_or hash 0)
    (length-candidates count by_queue by_cpu rxq cpu some))

-- a pick is below the number of queues where there is a candidate
pub within_some : (count : ℕ) (by_queue by_cpu : ℕ → ℕ → Bool) (rxq cpu : ℕ) (hash : Option ℕ)
    → 0 < length (candidates count by_queue by_cpu rxq cpu)
    → pick_of count by_queue by_cpu rxq cpu hash < count
within_some count by_queue by_cpu rxq cpu hash some =
    let cs : List ℕ = candidates count by_queue by_cpu rxq cpu in
    All-get_or (λ i. i < count) cs (unwrap_or hash 0 % length cs) 0
    (mod-lt (unwrap_or hash 0) some)
    (All-first_filled count (those_below count (λ tx. by_queue tx rxq))
    (those_below count (λ tx. by_cpu tx cpu)) (those_below count (λ tx. true))
    (those_below-below count (λ tx. by_queue tx rxq)) (those_below-below count
    (λ tx. by_cpu tx cpu)) (those_below-below count (λ tx. true)))

pub within : (count : ℕ) (by_queue by_cpu : ℕ → ℕ → Bool) (rxq cpu : ℕ) (hash : Option ℕ)
    → 0 < count
    → pick_of count by_queue by_cpu rxq cpu hash < count
within count by_queue by_cpu rxq cpu hash some =
    within_some count by_queue by_cpu rxq cpu hash
    (length-candidates count by_queue by_cpu rxq cpu some)

-- among all transmit queues the pick is the hash modulo their number
pub at_hash-all : (count hash : ℕ) → 0 < count
    → at_hash (those_below count (λ tx. true)) hash ≡ hash % count
at_hash-all count hash some =
    let all = those_below count (λ tx. true) in
    ap (λ n. slice_index all (hash % n)) (length-those_below_all count)
    ∙ ap (slice_index all) (sym (length-those_below_all (hash % count)))
    ∙ slice_index-those_below count (λ tx. true) (hash % count) (mod-lt hash some) refl

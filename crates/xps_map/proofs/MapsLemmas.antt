-- The inverse of the maps, empty and read, and lists that are written from their front.
use Rattle.std.proofs.Common.{ℕ, suc, ◌≡◌, ◌<◌, ◌≤◌, ◌+◌, ◌-◌, Bool, true, false, List, [], ◌∷◌}
use Rattle.std.proofs.Common.{◌++◌, length, take, set, get_or, replicate, inl, inr, refl, sym, ap}
use Rattle.std.proofs.Common.{◌∙◌, arith, slice_index_or, append_assoc}
use Rattle.std.specs.Prelude.{◌&&◌, nat_lt}
use Rattle.std.proofs.Math.ListN.{get_or-eq_default}
use Rattle.std.proofs.Math.Seq.{set-append_seam}
use Rattle.std.proofs.lemmas.Bool.{cases_lt, lt-ltb}
use Rattle.std.proofs.lemmas.List.{get_or-replicate, length-take}
use Rattle.std.proofs.lemmas.List.{length-replicate, length-take-le, take_more}
use Rattle.std.proofs.lemmas.Nat.Bits.{bit_at-zero}
use Rattle.steer_base.specs.Sets.{has, has_queue, members, those_below}
use Rattle.steer_base.specs.declared.cpu_mask.CpuMask.{CpuMask}
use Rattle.xps_map.proofs.ServingLemmas.{members-passing}
use Rattle.xps_map.specs.Inverses.{IsInverseOf, serves_cpu_of, serves_queue_of, serving}
use Rattle.xps_map.specs.Maps.{no_cpus}

and_false : (b : Bool) → (b && false) ≡ false
and_false true = refl
and_false false = refl

-- ---- what is in no set

pub has-none : (i : ℕ) → has no_cpus i ≡ false
has-none i = rw (bit_at-zero i) (and_false (nat_lt i 32))

has_queue-none : (i : ℕ) → has_queue 0 i ≡ false
has_queue-none i = rw (bit_at-zero i) (and_false (nat_lt i 16))

pub far_cpu : (cpus : List CpuMask) (tx place : ℕ) → 32 ≤ place
    → serves_cpu_of cpus tx place ≡ false
far_cpu cpus tx place far = let out : nat_lt place 32 ≡ false = grind arith in rw out refl

pub far_queue : (queues : List ℕ) (tx place : ℕ) → 16 ≤ place
    → serves_queue_of queues tx place ≡ false
far_queue queues tx place far = let out : nat_lt place 16 ≡ false = grind arith in rw out refl

pub beyond_cpus : (count : ℕ) (cpus : List CpuMask) (tx place : ℕ) → count ≤ tx
    → serves_cpu_of (take count cpus) tx place ≡ false
beyond_cpus count cpus tx place beyond =
    let long = length-take count cpus in
    rw (get_or-eq_default (take count cpus) no_cpus {n = tx} (omega arith)) (has-none place)

pub beyond_queues : (count : ℕ) (queues : List ℕ) (tx place : ℕ) → count ≤ tx
    → serves_queue_of (take count queues) tx place ≡ false
beyond_queues count queues tx place beyond =
    let long = length-take count queues in
    rw (get_or-eq_default (take count queues) 0 {n = tx} (omega arith)) (has_queue-none place)

-- ---- the members of a set are the transmit queues that serve its place

pub members-serving : (count width : ℕ) (serves : ℕ → ℕ → Bool) (sets : List CpuMask) (place : ℕ)
    → count ≤ 32
    → length sets ≡ width
    → IsInverseOf serves sets
    → ((tx : ℕ) → width ≤ place → serves tx place ≡ false)
    → ((tx : ℕ) → count ≤ tx → serves tx place ≡ false)
    → members (slice_index_or sets place no_cpus) ≡ those_below count (λ tx. serves tx place)
members-serving count width serves sets place few wide inverse far beyond =
    let same : (tx : ℕ) → serving sets tx place ≡ serves tx place = λ tx.
    elim (cases_lt place (length sets)) [
      | inl lt ↦ inverse tx place lt
      | inr ge ↦ rw (get_or-eq_default sets no_cpus {n = place} ge)
          (has-none tx ∙ sym (far tx (omega arith)))
    ] in
    members-passing (slice_index_or sets place no_cpus) count (λ tx. serves tx place) few λ tx.
    same tx ∙ elim (cases_lt tx count) [
      | inl lt ↦ rw (lt-ltb tx count lt) refl
      | inr ge ↦ beyond tx ge ∙ (let out : nat_lt tx count ≡ false = grind arith in rw out refl)
    ]

-- ---- empty maps

default-replicate : {A : Type 0} (n i : ℕ) (d : A) → get_or (replicate n d) i d ≡ d
default-replicate n i d =
    elim (cases_lt i n) [
      | inl lt ↦ get_or-replicate n i d d lt
      | inr ge ↦ (
          let long = length-replicate n d in
          get_or-eq_default (replicate n d) d {n = i} (omega arith))
    ]

pub IsInverseOf-no_cpus : (count places : ℕ)
    → IsInverseOf (serves_cpu_of (replicate count no_cpus)) (replicate places no_cpus)
IsInverseOf-no_cpus count places tx place within =
    rw (default-replicate places place no_cpus, default-replicate count tx no_cpus)
    (has-none tx ∙ sym (has-none place))

pub IsInverseOf-no_queues : (count places : ℕ)
    → IsInverseOf (serves_queue_of (replicate count 0)) (replicate places no_cpus)
IsInverseOf-no_queues count places tx place within =
    rw (default-replicate places place no_cpus, default-replicate {A = ℕ} count tx 0)
    (has-none tx ∙ sym (has_queue-none place))

-- ---- a list is written from its front

pub set-filled : {A : Type 0} (xs : List A) (i n : ℕ) (d : A) → i < n → length xs ≡ n
    → set (take i xs ++ replicate (n - i) d) i (get_or xs i d)
    ≡ take (i + 1) xs ++ replicate (n - (i + 1)) d
set-filled xs i n d within long =
    let left : n - i ≡ suc (n - (i + 1)) = omega arith in
    let size : length (take i xs) ≡ i = length-take-le i xs (omega arith) in
    let here : i < length xs = omega arith in
    ap (λ k. set (take i xs ++ replicate k d) i (get_or xs i d)) left
    ∙ ap (λ k. set (take i xs ++ d ∷ replicate (n - (i + 1)) d) k (get_or xs i d)) (sym size)
    ∙ set-append_seam (take i xs) d (replicate (n - (i + 1)) d) (get_or xs i d)
    ∙ sym (ap (λ ys. ys ++ replicate (n - (i + 1)) d) (take_more xs i d here)
    ∙ append_assoc (take i xs) (get_or xs i d ∷ []) (replicate (n - (i + 1)) d))

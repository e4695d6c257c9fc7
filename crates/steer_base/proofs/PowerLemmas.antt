-- Powers of two, by the bits that they share with the number below.
use Rattle.std.proofs.Common.{ℕ, zero, suc, ◌+◌, ◌-◌, ◌*◌, ◌/◌, ◌%◌, ◌<◌, ◌≤◌, ◌≡◌, arith}
use Rattle.std.proofs.Common.{ap, inl, inr, bit_and, min, ◌∙◌}
use Rattle.std.specs.Int.{IsPowerOfTwo}
use Rattle.std.proofs.Math.Nat.{pow-suc}
use Rattle.std.proofs.lemmas.Bool.{cases_eq}
use Rattle.std.proofs.lemmas.Nat.{and_mask}
use lib.Bits.{and_self, and_step}

-- a number above 0 that shares no bit with the one below it is a power of two
power-within : (n d : ℕ) → d ≤ n → 0 < d → bit_and d (d - 1) ≡ 0 → IsPowerOfTwo d
power-within zero d few some apart = absurd (omega arith)
power-within (suc n) d few some apart =
    let step : bit_and d (d - 1)
    ≡ bit_and (d / 2) ((d - 1) / 2) * 2 + min (d % 2) ((d - 1) % 2) = and_step d (d - 1) in
    elim (cases_eq (d % 2) 1) [
      | inl odd ↦
          let same : (d - 1) / 2 ≡ d / 2 = omega arith in
          let half : bit_and (d / 2) ((d - 1) / 2) ≡ d / 2 =
          ap (bit_and (d / 2)) same ∙ and_self (d / 2) in
          (0, omega arith)
      | inr even ↦
          let below : (d - 1) / 2 ≡ d / 2 - 1 = omega arith in
          let half : bit_and (d / 2) (d / 2 - 1) ≡ 0 =
          let moved = ap (bit_and (d / 2)) below in omega arith in
          let power = power-within n (d / 2) (omega arith) (omega arith) half in
          (suc power.0, (let twice = pow-suc 2 power.0 in let is = power.1 in omega arith))
    ]

-- the bits of a number below those of a power of two are its remainder
pub masked : (value d : ℕ) → 0 < d → bit_and d (d - 1) ≡ 0
    → bit_and value (d - 1) ≡ value % d
masked value d some apart =
    let power = power-within d d (omega arith) some apart in
    rw power.1 (and_mask value power.0)

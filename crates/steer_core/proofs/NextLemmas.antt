-- The least number of a set from one on, by the lowest of the bits that are left.
use Rattle.std.proofs.Common.{ℕ, ◌+◌, ◌-◌, ◌/◌, ◌^◌, ◌%◌, ◌<◌, ◌≤◌, ◌≡◌, Bool, true, false}
use Rattle.std.proofs.Common.{refl, ap, sym, ◌∙◌, arith, subst, w32, inl, inr}
use Rattle.std.specs.Prelude.{◌&&◌, ◌==◌, nat_lt}
use Rattle.std.specs.Int.{bit_at, trailing_zeros}
use Rattle.std.specs.Slice.Scan.{HoldsNowhere, IsFirstPlace}
use Rattle.std.proofs.lemmas.Bool.{cases_lt, lt-ltb}
use Rattle.std.proofs.lemmas.Nat.{shr-shr, shr_le}
use Rattle.std.proofs.lemmas.Nat.Bits.{bit_at-trailing_zeros, bit_at-zero, bit_at_above}
use Rattle.steer_base.specs.Sets.{in_bits}

and-false : (b : Bool) → (b && false) ≡ false
and-false true = refl
and-false false = refl

-- a bit that is left stands further up
bit-left : (bits from i : ℕ) → bit_at (bits / 2 ^ from) i ≡ bit_at bits (from + i)
bit-left bits from i = ap (λ n. n % 2) (shr-shr bits from i)

module _ (bits from end : ℕ) (fits : bits < 2 ^ 32) where
  free : (n : ℕ) → from ≤ n → bit_at (bits / 2 ^ from) (n - from) ≡ 0 → in_bits 32 bits n ≡ false
  free n above none =
      let at : from + (n - from) ≡ n = omega (arith, above) in
      let bit : bit_at bits n ≡ 0 =
      ap (bit_at bits) (sym at) ∙ sym (bit-left bits from (n - from)) ∙ none in
      ap (λ b. nat_lt n 32 && b == 1) bit ∙ and-false (nat_lt n 32)

  taken : (i : ℕ) → bit_at (bits / 2 ^ from) i ≡ 1 → in_bits 32 bits (from + i) ≡ true
  taken i one =
      let bit : bit_at bits (from + i) ≡ 1 = sym (bit-left bits from i) ∙ one in
      elim (cases_lt (from + i) 32) [
        | inl below ↦ rw (bit, lt-ltb (from + i) 32 below) refl
        | inr past ↦ absurd (
            let none : bit_at bits (from + i) ≡ 0 = bit_at_above bits 32 (from + i) fits past in
            omega (arith, none, bit))
      ]

  -- no bit is left
  pub none-left : bits / 2 ^ from ≡ 0 → HoldsNowhere (in_bits 32 bits) from end
  none-left is n above below =
      free n above (ap (λ k. bit_at k (n - from)) is ∙ bit_at-zero (n - from))

  module _ (next : ℕ) (some : 0 < bits / 2 ^ from)
      (is : next ≡ from + trailing_zeros w32 (bits / 2 ^ from)) where
    lowest : (bit_at (bits / 2 ^ from) (next - from) ≡ 1)
        × ((i : ℕ) → i < next - from → bit_at (bits / 2 ^ from) i ≡ 0)
    lowest =
        let at : trailing_zeros w32 (bits / 2 ^ from) ≡ next - from = omega (arith, is) in
        let t = bit_at-trailing_zeros w32 (bits / 2 ^ from) some
        (let le = shr_le bits from in omega (arith, le, fits)) in
        subst (λ k. (bit_at (bits / 2 ^ from) k ≡ 1)
        × ((i : ℕ) → i < k → bit_at (bits / 2 ^ from) i ≡ 0)) at (t.1, t.2)

    none-before : HoldsNowhere (in_bits 32 bits) from next
    none-before n above below =
        free n above (lowest.1 (n - from) (omega (arith, above, below)))

    -- the lowest bit that is left stands past the end, or is the next
    pub none-below : end ≤ next → HoldsNowhere (in_bits 32 bits) from end
    none-below past n above below = none-before n above (omega (arith, past, below))

    pub first : next < end → IsFirstPlace (in_bits 32 bits) from end next
    first within =
        record {
          low = omega (arith, is);
          high = omega (arith, within);
          before = none-before;
          hit = λ lt. (
              let at : from + (next - from) ≡ next = omega (arith, is) in
              ap (in_bits 32 bits) (sym at) ∙ taken (next - from) lowest.0);
        }

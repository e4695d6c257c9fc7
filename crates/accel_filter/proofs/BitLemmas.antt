-- The lowest bit of a word from one on, by the lowest of those that are left.
use Rattle.std.proofs.Common.{ℕ, ◌+◌, ◌-◌, ◌/◌, ◌^◌, ◌%◌, ◌<◌, ◌≤◌, ◌≡◌, false, ap, sym, ◌∙◌}
use Rattle.std.proofs.Common.{arith, w64, inl, inr}
use Rattle.std.specs.Prelude.{◌==◌}
use Rattle.std.specs.Int.{bit_at, trailing_zeros}
use Rattle.std.specs.Slice.Scan.{HoldsNowhere}
use Rattle.std.proofs.lemmas.Bool.{cases_lt}
use Rattle.std.proofs.lemmas.Nat.{shr-shr, shr_le}
use Rattle.std.proofs.lemmas.Nat.Bits.{bit_at-trailing_zeros, bit_at-zero, bit_at_above}
use Rattle.accel_filter.specs.Marks.{has_bit}
use Rattle.accel_filter.specs.Next.{IsNext}

-- a bit that is left was further up
bit-left : (word from i : ℕ) → bit_at (word / 2 ^ from) i ≡ bit_at word (from + i)
bit-left word from i = ap (λ n. n % 2) (shr-shr word from i)

module _ (word from : ℕ) where
  unset : (n : ℕ) → from ≤ n → bit_at (word / 2 ^ from) (n - from) ≡ 0 → has_bit word n ≡ false
  unset n behind none =
      let at : from + (n - from) ≡ n = omega (arith, behind) in
      ap (λ b. b == 1) (ap (bit_at word) (sym at) ∙ sym (bit-left word from (n - from)) ∙ none)

  -- no bit is left
  pub none-left : word / 2 ^ from ≡ 0 → HoldsNowhere (has_bit word) from 64
  none-left is n behind below =
      unset n behind (ap (λ k. bit_at k (n - from)) is ∙ bit_at-zero (n - from))

  -- the lowest that is left is the next
  pub lowest : word < 2 ^ 64 → 0 < word / 2 ^ from
      → (from + trailing_zeros w64 (word / 2 ^ from) < 64)
      × IsNext (has_bit word) from (from + trailing_zeros w64 (word / 2 ^ from))
  lowest fits some =
      let left : ℕ = word / 2 ^ from in
      let up : ℕ = trailing_zeros w64 left in
      let bits = bit_at-trailing_zeros w64 left some
      (let le = shr_le word from in omega (arith, le, fits)) in
      let one : bit_at word (from + up) ≡ 1 = sym (bit-left word from up) ∙ bits.1 in (
        elim (cases_lt (from + up) 64) [
          | inl below ↦ below
          | inr past ↦ absurd (let none = bit_at_above word 64 (from + up) fits past in
              omega (arith, none, one))
        ],
        record {
          behind = omega arith;
          passes = ap (λ b. b == 1) one;
          before = λ n behind below.
              unset n behind (bits.2 (n - from) (omega (arith, behind, below)));
        },
      )

-- Marks in words: one more, one less, and the next from a number on.
use Rattle.std.proofs.Common.{ℕ, ◌*◌, ◌/◌, ◌%◌, ◌^◌, ◌<◌, ◌≡◌, ◌≢◌, Bool, true, false}
use Rattle.std.proofs.Common.{List, length, not, ◌||◌, refl, ap, sym, ◌∙◌, arith, w64, inl, inr}
use Rattle.std.proofs.Common.{bit_and, bit_or, replicate}
use Rattle.std.specs.Prelude.{◌&&◌, ◌==◌, slice_index, slice_set}
use Rattle.std.specs.Int.{bit_at, bit_not}
use Rattle.std.proofs.lemmas.Bool.{cases_eq, cases_lt, eq-eqb, ne_eqb, or_right}
use Rattle.std.proofs.lemmas.List.{get_or-replicate, get_or-set_other, get_or-set_same}
use Rattle.std.proofs.lemmas.List.{get_or_past}
use Rattle.std.proofs.lemmas.Nat.Bits.{bit_at_clear_other, bit_at_clear_same, bit_at_set_other}
use Rattle.std.proofs.lemmas.Nat.Bits.{bit_at_set_same, bit_at-zero}
use Rattle.accel_filter.specs.Marks.{has_bit, marked}
use Rattle.accel_filter.specs.declared.marks.Marks.{Marks}

or-false : (b : Bool) → (b || false) ≡ b
or-false true = refl
or-false false = refl

and-true : (b : Bool) → (b && true) ≡ b
and-true true = refl
and-true false = refl

and-false : (b : Bool) → (b && false) ≡ false
and-false true = refl
and-false false = refl

-- where all words are 0
pub marked-none : (n : ℕ) → marked (record { words = replicate 64 0 }) n ≡ false
marked-none n =
    let zero : slice_index (replicate 64 0) (n / 64) ≡ 0 = elim (cases_lt (n / 64) 64) [
      | inl lt ↦ get_or-replicate 64 (n / 64) 0 0 lt
      | inr past ↦ get_or_past (replicate 64 0) (n / 64) 0 past
    ] in
    ap (λ w. has_bit w (n % 64)) zero ∙ ap (λ b. b == 1) (bit_at-zero (n % 64))

-- a word was written at the place of a number
module _ (words : List ℕ) (n : ℕ) (within : n / 64 < length words) (word : ℕ) where
  bit-here : (k : ℕ) → n / 64 ≡ k / 64
      → bit_at (slice_index (slice_set words (n / 64) word) (k / 64)) (k % 64)
      ≡ bit_at word (k % 64)
  bit-here k here =
      ap (λ i. bit_at (slice_index (slice_set words (n / 64) word) i) (k % 64)) (sym here)
      ∙ ap (λ w. bit_at w (k % 64)) (get_or-set_same words (n / 64) word 0 within)

  bit-there : (k : ℕ) → (k / 64) ≢ (n / 64)
      → bit_at (slice_index (slice_set words (n / 64) word) (k / 64)) (k % 64)
      ≡ bit_at (slice_index words (k / 64)) (k % 64)
  bit-there k apart =
      ap (λ w. bit_at w (k % 64)) (get_or-set_other words (n / 64) (k / 64) word 0 apart)

module _ (marks : Marks) (n : ℕ) (within : n / 64 < length marks.words) (k : ℕ) where
  pub marked-mark : marked (record {
    words = slice_set marks.words (n / 64)
        (bit_or (slice_index marks.words (n / 64)) (1 * 2 ^ (n % 64) % 2 ^ 64));
  }) k
      ≡ (marked marks k || n == k)
  marked-mark =
      let old : ℕ = slice_index marks.words (n / 64) in
      let word : ℕ = bit_or old (1 * 2 ^ (n % 64) % 2 ^ 64) in
      elim (cases_eq n k) [
        | inl e ↦ (
            let bit = bit-here marks.words n within word k (ap (λ i. i / 64) e)
            ∙ ap (λ i. bit_at word (i % 64)) (sym e)
            ∙ bit_at_set_same w64 old (n % 64) (omega arith) in
            rw (bit, eq-eqb n k e) (sym (or_right (marked marks k) true refl)))
        | inr ne ↦ elim (cases_eq (k / 64) (n / 64)) [
          | inl e ↦ (
              let bit = bit-here marks.words n within word k (sym e)
              ∙ bit_at_set_other w64 old (n % 64) (omega arith) (k % 64) (omega (arith, e, ne))
              ∙ ap (λ i. bit_at (slice_index marks.words i) (k % 64)) (sym e) in
              rw (bit, ne_eqb n k ne) (sym (or-false (marked marks k))))
          | inr apart ↦
              rw (bit-there marks.words n within word k apart, ne_eqb n k ne)
              (sym (or-false (marked marks k)))
        ]
      ]

  pub marked-unmark : marked (record {
    words = slice_set marks.words (n / 64)
        (bit_and (slice_index marks.words (n / 64)) (bit_not w64 (1 * 2 ^ (n % 64) % 2 ^ 64)));
  }) k
      ≡ (marked marks k && not (n == k))
  marked-unmark =
      let old : ℕ = slice_index marks.words (n / 64) in
      let word : ℕ = bit_and old (bit_not w64 (1 * 2 ^ (n % 64) % 2 ^ 64)) in
      elim (cases_eq n k) [
        | inl e ↦ (
            let bit = bit-here marks.words n within word k (ap (λ i. i / 64) e)
            ∙ ap (λ i. bit_at word (i % 64)) (sym e)
            ∙ bit_at_clear_same w64 old (n % 64) (omega arith) in
            rw (bit, eq-eqb n k e) (sym (and-false (marked marks k))))
        | inr ne ↦ elim (cases_eq (k / 64) (n / 64)) [
          | inl e ↦ (
              let bit = bit-here marks.words n within word k (sym e)
              ∙ bit_at_clear_other w64 old (n % 64) (omega arith) (k % 64) (omega arith)
              (omega (arith, e, ne))
              ∙ ap (λ i. bit_at (slice_index marks.words i) (k % 64)) (sym e) in
              rw (bit, ne_eqb n k ne) (sym (and-true (marked marks k))))
          | inr apart ↦
              rw (bit-there marks.words n within word k apart, ne_eqb n k ne)
              (sym (and-true (marked marks k)))
        ]
      ]

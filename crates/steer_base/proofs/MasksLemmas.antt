-- The members of sets of processors that are made of others.
use Rattle.std.proofs.Common.{ℕ, zero, suc, ◌≡◌, ◌≤◌, ◌<◌, ◌+◌, ◌-◌, ◌*◌, ◌%◌, ◌^◌, Bool, true}
use Rattle.std.proofs.Common.{false, not, w32, ◌||◌, inl, inr, refl, sym, ap, ◌∙◌, arith, bit_and}
use Rattle.std.proofs.Common.{bit_or, length}
use Rattle.std.specs.Prelude.{◌==◌, ◌&&◌, nat_lt, count_ones}
use Rattle.std.specs.Int.{bit_at, bit_not}
use Rattle.std.proofs.Math.Nat.{mod-eq_of_lt, mod-lt}
use Rattle.std.proofs.lemmas.Bool.{cases_eq, cases_lt, eq-eqb, ne_eqb, lt-ltb, or_right}
use Rattle.std.proofs.lemmas.Nat.{pow_pos, mod-pow-add, one_shl, ones-le, ones_cat, zero_from_ones}
use Rattle.std.proofs.lemmas.Nat.Bits.{bit_at-lt, bit_at_clear_other, bit_at_clear_same}
use Rattle.std.proofs.lemmas.Nat.Bits.{bit_at_ones, bit_at_ones_above, bit_at_set_other}
use Rattle.std.proofs.lemmas.Nat.Bits.{bit_at_set_same}
use Rattle.steer_base.proofs.SetsLemmas.{length-those_below_pass, those_below-same}
use Rattle.steer_base.proofs.SetsLemmas.{those_below-zero, those_below_fail}
use Rattle.steer_base.specs.Sets.{first_cpus, has, members, those_below, with_cpu, without_cpu}
use Rattle.steer_base.specs.declared.cpu_mask.CpuMask.{CpuMask}

or_false : (b : Bool) → (b || false) ≡ b
or_false true = refl
or_false false = refl

pub and_true : (b : Bool) → (b && true) ≡ b
and_true true = refl
and_true false = refl

and_false : (b : Bool) → (b && false) ≡ false
and_false true = refl
and_false false = refl

-- ---- one processor more, and one less

bit_at-with : (bits cpu : ℕ) → cpu < 32 → bit_or bits (1 * 2 ^ cpu % 2 ^ 32) ≡ bit_or bits (2 ^ cpu)
bit_at-with bits cpu small = ap (bit_or bits) (one_shl cpu 32 small)

bit_at-without : (bits cpu : ℕ) → cpu < 32 → bit_and bits
    (bit_not w32 (1 * 2 ^ cpu % 2 ^ 32)) ≡ bit_and bits (2 ^ 32 - 1 - 2 ^ cpu)
bit_at-without bits cpu small = ap (λ m. bit_and bits (2 ^ 32 - 1 - m)) (one_shl cpu 32 small)

pub has-with_cpu : (mask : CpuMask) (cpu other : ℕ) → cpu < 32
    → has (with_cpu mask cpu) other ≡ (has mask other || (nat_lt other 32 && cpu == other))
has-with_cpu mask cpu other small =
    elim (cases_lt other 32) [
      | inl lt ↦ elim (cases_eq cpu other) [
        | inl e ↦ (
            let bit : bit_at (bit_or mask.0 (2 ^ cpu)) other ≡ 1 =
            ap (λ n. bit_at n other) (sym (bit_at-with mask.0 cpu small))
            ∙ ap (bit_at (bit_or mask.0 (1 * 2 ^ cpu % 2 ^ 32))) (sym e)
            ∙ bit_at_set_same w32 mask.0 cpu small in
            rw (lt-ltb other 32 lt, bit, eq-eqb cpu other e)
            (sym (or_right (bit_at mask.0 other == 1) true refl)))
        | inr ne ↦ (
            let bit : bit_at (bit_or mask.0 (2 ^ cpu)) other ≡ bit_at mask.0 other =
            ap (λ n. bit_at n other) (sym (bit_at-with mask.0 cpu small))
            ∙ bit_at_set_other w32 mask.0 cpu small other (λ e. ne (sym e)) in
            rw (lt-ltb other 32 lt, bit, ne_eqb cpu other ne)
            (sym (or_false (bit_at mask.0 other == 1))))
      ]
      | inr ge ↦ (let out : nat_lt other 32 ≡ false = grind arith in rw out refl)
    ]

pub has-without_cpu : (mask : CpuMask) (cpu other : ℕ) → cpu < 32
    → has (without_cpu mask cpu) other ≡ (has mask other && not (cpu == other))
has-without_cpu mask cpu other small =
    elim (cases_lt other 32) [
      | inl lt ↦ elim (cases_eq cpu other) [
        | inl e ↦ (
            let bit : bit_at (bit_and mask.0 (2 ^ 32 - 1 - 2 ^ cpu)) other ≡ 0 =
            ap (λ n. bit_at n other) (sym (bit_at-without mask.0 cpu small))
            ∙ ap (bit_at (bit_and mask.0 (bit_not w32 (1 * 2 ^ cpu % 2 ^ 32)))) (sym e)
            ∙ bit_at_clear_same w32 mask.0 cpu small in
            rw (lt-ltb other 32 lt, bit, eq-eqb cpu other e)
            (sym (and_false (bit_at mask.0 other == 1))))
        | inr ne ↦ (
            let bit : bit_at (bit_and mask.0 (2 ^ 32 - 1 - 2 ^ cpu)) other ≡ bit_at mask.0 other =
            ap (λ n. bit_at n other) (sym (bit_at-without mask.0 cpu small))
            ∙ bit_at_clear_other w32 mask.0 cpu small other lt (λ e. ne (sym e)) in
            rw (lt-ltb other 32 lt, bit, ne_eqb cpu other ne)
            (sym (and_true (bit_at mask.0 other == 1))))
      ]
      | inr ge ↦ (let out : nat_lt other 32 ≡ false = grind arith in rw out refl)
    ]

-- ---- the first processors

pub has-first_cpus : (count cpu : ℕ) → count ≤ 32 → has (first_cpus count) cpu ≡ nat_lt cpu count
has-first_cpus count cpu few =
    elim (cases_lt cpu count) [
      | inl lt ↦ rw (lt-ltb cpu count lt, lt-ltb cpu 32 (omega arith), bit_at_ones count cpu lt)
          refl
      | inr ge ↦ (
          let out : nat_lt cpu count ≡ false = grind arith in
          rw (out, bit_at_ones_above count cpu ge) (and_false (nat_lt cpu 32)))
    ]

pub has-first_shift : (count cpu : ℕ) → count ≤ 32 → has (record { 0 = 1 * 2 ^ count % 2 ^ 64 - 1 })
    cpu ≡ nat_lt cpu count
has-first_shift count cpu few =
    ap (λ n. has (record { 0 = n - 1 }) cpu) (one_shl count 64 (omega arith))
    ∙ has-first_cpus count cpu few

-- ---- how many members

ones-bit : (b : ℕ) → b < 2 → count_ones b ≡ b
ones-bit zero h = let most = ones-le 0 0 (omega arith) in omega arith
ones-bit (suc zero) h =
    let most = ones-le 1 1 (omega arith) in
    elim (cases_eq (count_ones 1) 0) [
      | inl none ↦ absurd (let z = zero_from_ones 1 none in omega arith)
      | inr some ↦ omega arith
    ]
ones-bit (suc (suc b)) h = absurd (omega arith)

-- the ones among the low k bits are as many as the places below k that have one
ones-low : (n k : ℕ) → count_ones (n % 2 ^ k) ≡ length (those_below k (λ i. bit_at n i == 1))
ones-low n zero =
    let most = ones-le 0 (n % 2 ^ 0) (mod-lt n (omega arith)) in
    let none = ap length (those_below-zero (λ i. bit_at n i == 1)) in omega arith
ones-low n (suc k) =
    let low = n % 2 ^ k in
    let bit = bit_at n k in
    let test : ℕ → Bool = λ i. bit_at n i == 1 in
    let e : suc k ≡ 1 + k = omega arith in
    let more : suc k ≡ k + 1 = omega arith in
    let split : n % 2 ^ suc k ≡ bit * 2 ^ k + low = ap (λ j. n % 2 ^ j) e ∙ mod-pow-add n 1 k in
    let ones : count_ones (n % 2 ^ suc k) ≡ bit + length (those_below k test) =
    ap count_ones split ∙ ones_cat k bit low (mod-lt n (pow_pos k)) ∙ ap (λ b. b + count_ones low)
    (ones-bit bit (bit_at-lt n k))
    ∙ ap (λ c. bit + c) (ones-low n k) in
    elim (cases_eq bit 1) [
      | inl on ↦
          let kept = length-those_below_pass k test (eq-eqb bit 1 on) in
          rw more (omega (arith, rw more at ones))
      | inr off ↦
          let none : bit ≡ 0 = let h = bit_at-lt n k in omega arith in
          let kept = those_below_fail k test (ne_eqb bit 1 off) in
          rw (more, kept) (omega (arith, rw more at ones))
    ]

pub count_ones-members : (mask : CpuMask) → mask.0 < 2 ^ 32 → count_ones mask.0 ≡ length
    (members mask)
count_ones-members mask fits =
    ap count_ones (sym (mod-eq_of_lt fits)) ∙ ones-low mask.0 32
    ∙ ap length (those_below-same 32 (λ i. bit_at mask.0 i == 1) (has mask)
    (λ i lt. rw (lt-ltb i 32 lt) refl))

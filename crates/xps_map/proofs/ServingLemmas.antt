-- A loop over the numbers below n that collects those which pass a test in a set.
use Rattle.std.proofs.Common.{ℕ, ◌≡◌, ◌≤◌, ◌+◌, ◌-◌, Bool, false, refl, sym, ap, ◌∙◌, arith}
use Rattle.std.specs.Prelude.{◌&&◌, nat_lt}
use Rattle.std.proofs.lemmas.Bool.{lt-ltb}
use Rattle.steer_base.proofs.SetsLemmas.{those_below-fewer, those_below-same}
use Rattle.steer_base.specs.Sets.{has, members, those_below}
use Rattle.steer_base.specs.declared.cpu_mask.CpuMask.{CpuMask}

-- the set has those of the numbers below n that pass
abbrev pub HasPassing : CpuMask → ℕ → (ℕ → Bool) → Type 0
HasPassing mask n test = (i : ℕ) → has mask i ≡ (nat_lt i n && test i)

-- its members are those that pass
pub members-passing : (mask : CpuMask) (n : ℕ) (test : ℕ → Bool) → n ≤ 32 → HasPassing mask n test
    → members mask ≡ those_below n test
members-passing mask n test few same =
    let e : n + (32 - n) ≡ 32 = omega arith in
    ap (λ k. those_below k (has mask)) (sym e)
    ∙ those_below-fewer n (32 - n) (has mask) (λ i h. same i
    ∙ (let out : nat_lt i n ≡ false = grind arith in rw out refl))
    ∙ those_below-same n (has mask) test (λ i lt. same i ∙ rw (lt-ltb i n lt) refl)

-- The first of the numbers that pass a test, and those behind it.
use Rattle.std.proofs.Common.{ℕ, zero, suc, ◌≡◌, ◌<◌, ◌+◌, ◌-◌, ◌^◌, Bool, true, false, not}
use Rattle.std.proofs.Common.{List, [], ◌∷◌, ◌++◌, cond, w32, inl, inr, refl, sym, ap, ◌∙◌, arith}
use Rattle.std.proofs.Common.{length, drop, slice_index}
use Rattle.std.specs.Prelude.{◌==◌, ◌&&◌}
use Rattle.std.specs.Int.{trailing_zeros}
use Rattle.std.proofs.lemmas.Bool.{cases_eq, eq-eqb, ne_eqb, lt-ltb}
use Rattle.std.proofs.lemmas.Nat.Bits.{bit_at-trailing_zeros}
use Rattle.std.proofs.lemmas.Nat.{ones_le_self}
use Rattle.std.proofs.lemmas.List.{drop_more, length-drop}
use Rattle.std.proofs.lemmas.List.Elements.{All-get_or}
use Rattle.steer_base.proofs.MasksLemmas.{and_true, has-without_cpu, count_ones-members}
use Rattle.steer_base.proofs.SetsLemmas.{those_below-more, those_below-passes}
use Rattle.steer_base.proofs.SetsLemmas.{those_below-zero, those_below_fail}
use Rattle.steer_base.specs.Sets.{has, members, those_below, without_cpu}
use Rattle.steer_base.specs.declared.cpu_mask.CpuMask.{CpuMask}

-- where none passes, none is kept
none_below : (n : ℕ) (test : ℕ → Bool) → ((i : ℕ) → i < n → test i ≡ false)
    → those_below n test ≡ []
none_below zero test fails = those_below-zero test
none_below (suc n) test fails =
    let e : suc n ≡ n + 1 = omega arith in
    ap (λ k. those_below k test) e ∙ those_below_fail n test (fails n (omega arith))
    ∙ none_below n test (λ i lt. fails i (omega arith))

-- the first that passes stands before those that pass without it
first_below : (n : ℕ) (test rest : ℕ → Bool) (first : ℕ) → first < n → test first ≡ true
    → ((i : ℕ) → i < first → test i ≡ false)
    → ((i : ℕ) → rest i ≡ (test i && not (first == i)))
    → those_below n test ≡ first ∷ those_below n rest
first_below zero test rest first lt passes before others = absurd (omega arith)
first_below (suc n) test rest first lt passes before others =
    let e : suc n ≡ n + 1 = omega arith in
    let behind : those_below (suc n) test ≡ those_below n test ++ cond (test n) (n ∷ []) [] =
    ap (λ k. those_below k test) e ∙ those_below-more n test in
    let behind_rest : those_below (suc n) rest ≡ those_below n rest ++ cond (rest n) (n ∷ []) [] =
    ap (λ k. those_below k rest) e ∙ those_below-more n rest in
    elim (cases_eq first n) [
      | inl here ↦ (
          let on : test n ≡ true = ap test (sym here) ∙ passes in
          let off : rest n ≡ false = others n ∙ rw (on, eq-eqb first n here) refl in
          let none = none_below n test (λ i below. before i (omega arith)) in
          let none_rest = none_below n rest
          (λ i below. others i ∙ rw (before i (omega arith)) refl) in
          behind ∙ rw (none, on) (rw here (ap (λ xs. n ∷ xs)
          (sym (behind_rest ∙ rw (none_rest, off) refl)))))
      | inr later ↦ (
          let same : rest n ≡ test n = others n ∙ rw (ne_eqb first n later) (and_true (test n)) in
          behind ∙ rw (first_below n test rest first (omega arith) passes before others)
          (ap (λ xs. first ∷ xs) (sym (behind_rest ∙ rw same refl))))
    ]

-- a set with a member is not the number 0
bits-some : (set : CpuMask) → set.0 < 2 ^ 32 → 0 < length (members set) → 0 < set.0
bits-some set fits some =
    let count = count_ones-members set fits in
    let most = ones_le_self set.0 in omega arith

-- the lowest set bit is a processor of the set, and the least
pub lowest-lt : (set : CpuMask) → set.0 < 2 ^ 32 → 0 < length (members set)
    → trailing_zeros w32 set.0 < 32
lowest-lt set fits some = (bit_at-trailing_zeros w32 set.0 (bits-some set fits some) fits).0

pub has-lowest : (set : CpuMask) → set.0 < 2 ^ 32 → 0 < length (members set)
    → has set (trailing_zeros w32 set.0) ≡ true
has-lowest set fits some =
    let low = bit_at-trailing_zeros w32 set.0 (bits-some set fits some) fits in
    rw (lt-ltb (trailing_zeros w32 set.0) 32 low.0, low.1) refl

pub members-lowest : (set : CpuMask) → set.0 < 2 ^ 32 → 0 < length (members set)
    → members set ≡ trailing_zeros w32 set.0 ∷ members (without_cpu set (trailing_zeros w32 set.0))
members-lowest set fits some =
    let lowest = trailing_zeros w32 set.0 in
    let low = bit_at-trailing_zeros w32 set.0 (bits-some set fits some) fits in
    first_below 32 (has set) (has (without_cpu set lowest)) lowest low.0
    (has-lowest set fits some)
    (λ i below. rw (lt-ltb i 32 (omega (arith, low.0)), low.2 i below) refl)
    (λ i. has-without_cpu set lowest i low.0)

-- there are members from an index of the list on
pub members-left : (all rest : CpuMask) (index : ℕ)
    → members rest ≡ drop index (members all)
    → index < length (members all)
    → 0 < length (members rest)
members-left all rest index from within =
    let left : length (members rest) ≡ length (members all) - index =
    ap length from ∙ length-drop index (members all) in omega arith

-- what is left behind the least of the members from an index on
pub members-next : (all rest : CpuMask) (index first : ℕ) (others : List ℕ)
    → members rest ≡ drop index (members all)
    → index < length (members all)
    → members rest ≡ first ∷ others
    → others ≡ drop (index + 1) (members all)
members-next all rest index first others from within is =
    ap (drop 1) (sym is ∙ from ∙ drop_more (members all) index 0 within)

-- the least of the members from an index on is the one at the index
pub members-here : (all rest : CpuMask) (index first : ℕ) (others : List ℕ)
    → members rest ≡ drop index (members all)
    → index < length (members all)
    → members rest ≡ first ∷ others
    → first ≡ slice_index (members all) index
members-here all rest index first others from within is =
    ap (λ xs. slice_index xs 0) (sym is ∙ from ∙ drop_more (members all) index 0 within)

-- what stands in the list of the members is in the set
pub has-members : (set : CpuMask) (index : ℕ) → index < length (members set)
    → has set (slice_index (members set) index) ≡ true
has-members set index within =
    All-get_or (λ i. has set i ≡ true) (members set) index 0 within
    (those_below-passes 32 (has set))

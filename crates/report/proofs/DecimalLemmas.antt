-- How many decimal digits a number has, and its digits behind the first bytes of a room.
use Rattle.std.proofs.Common.{◌≡◌, ◌∙◌, ℕ, ◌<◌, ◌≤◌, ◌+◌, ◌*◌, ◌%◌, ◌^◌, List, [], ◌∷◌}
use Rattle.std.proofs.Common.{◌++◌, length}
use Rattle.std.proofs.Common.{ap, arith, decimal, drop, inl, inr, length-append, refl, sym}
use Rattle.std.proofs.Common.{take, take_at, take-add}
use Rattle.std.proofs.lemmas.Bool.Decides.{leb_tells}
use Rattle.std.proofs.lemmas.Fmt.{decimal_by_steps, length-decimal-le}
use Rattle.std.proofs.lemmas.Grind.{pow_more}
use Rattle.std.proofs.Math.Nat.{pow-le-pow_right}

-- a number is below the power that has one place more than it
decimal-below : (n : ℕ) → n < 2 ^ 64 → n < 10 ^ length (decimal n)
decimal-below = decimal_by_steps (λ m ds. m < 10 ^ length ds) (λ m l. omega arith)
    (λ m ds l h. rw (length-append ds ((48 + m % 10) ∷ []), pow_more 10 (length ds))
    (omega (arith, h)))

-- the number of digits, from the power of ten at or below a number
pub length-decimal : (k n : ℕ) → n < 2 ^ 64 → 10 ^ k ≤ n → n < 10 * 10 ^ k
    → length (decimal n) ≡ k + 1
length-decimal k n fits least next =
    let most = length-decimal-le (k + 1) n (omega arith)
    (rw (pow_more 10 k) (omega (arith, next))) fits in
    elim (leb_tells (length (decimal n)) k) [
      | inl few ↦
          let over : 10 ^ length (decimal n) ≤ 10 ^ k = pow-le-pow_right (omega arith) few.1 in
          absurd (omega (arith, decimal-below n fits, least, over))
      | inr many ↦ omega (arith, most, many.1)
    ]

-- digits that end at a place of a room, and begin where its first bytes end
pub placed-behind : (old new ds : List ℕ) (at start end : ℕ) → start ≡ at
    → start + length ds ≡ end → drop start new ≡ ds ++ drop end old
    → take start new ≡ take start old → take end new ≡ take at old ++ ds
placed-behind old new ds at start end same all written before =
    (λ i. take (sym all i) new)
    ∙ take-add start (length ds) new
    ∙ ap (λ r. take start new ++ take (length ds) r) written
    ∙ (λ i. before i ++ take_at ds (drop end old) (length ds) refl i)
    ∙ ap (λ s. take s old ++ ds) same

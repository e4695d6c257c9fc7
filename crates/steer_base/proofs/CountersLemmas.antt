-- Counts and the numbers that counters show at them; the sizes of tables.
use Rattle.std.proofs.Common.{ℕ, zero, suc, ◌+◌, ◌-◌, ◌*◌, ◌/◌, ◌^◌, ◌<◌, ◌≤◌, ◌≡◌, nat_le, arith}
use Rattle.std.proofs.Common.{add-one, lit<, inl, inr, ap, sym, ◌∙◌}
use Rattle.std.specs.Int.{IsPowerOfTwo}
use Rattle.std.specs.List.{range_with_len}
use Rattle.std.specs.Prelude.{◌==◌, find, map, max, unwrap_or}
use Rattle.std.proofs.Math.Nat.{pow-le-pow_right}
use Rattle.std.proofs.Math.Pow.{pow-lt}
use Rattle.std.proofs.lemmas.Bool.{cases_Bool, cases_eq, cases_lt, leb-true, leb-false}
use Rattle.steer_base.specs.Counters.{number, distance, has_reached, first_power, rounded_up}

pub distance-further : (start a b : ℕ) → start < 2 ^ 32 → a ≤ 262144 → b ≤ a
    → distance (number start a) (number start b) ≡ a - b
distance-further start a b s h le = omega arith

pub distance-behind : (start a b : ℕ) → start < 2 ^ 32 → b ≤ 262144 → a < b
    → distance (number start a) (number start b) ≡ 2 ^ 32 - (b - a)
distance-behind start a b s h lt = omega arith

-- numbers of counts compare as the counts do
pub has_reached-counts : (start a b more : ℕ) → start < 2 ^ 32 → a ≤ 262144 → b ≤ 262144
    → has_reached (number start a) (number start b) more ≡ nat_le (b + more) a
has_reached-counts start a b more s ha hb =
    elim (cases_Bool (nat_le b a)) [
      | inl e ↦ let le : b ≤ a = leb-true b a e in
          rw (distance-further start a b s ha le) (grind (arith))
      | inr e ↦ let lt : a < b = leb-false b a e in
          rw (distance-behind start a b s hb lt) (grind (arith))
    ]

-- ---- powers of two

-- no power of two from n on is below the next power of n
pub next_power-least : (n k j : ℕ) → 0 < n → 2 ^ k / 2 < n → n ≤ 2 ^ j → 2 ^ k ≤ 2 ^ j
next_power-least n k j some near enough =
    elim (cases_lt j k) [
      | inl below ↦
          let e : k ≡ j + 1 + (k - (j + 1)) = omega arith in
          let more : 2 ^ (j + 1) ≤ 2 ^ k = pow-le-pow_right {n = 2} (lit< tt) (omega arith) in
          let double : 2 ^ (j + 1) ≡ 2 * 2 ^ j = rw (add-one j) (omega arith) in
          absurd (omega arith)
      | inr above ↦ pow-le-pow_right {n = 2} (lit< tt) above
    ]

-- the search through the powers finds the first that is enough
find-power : (n k from len : ℕ) → from ≤ k → k < from + len → n ≤ 2 ^ k
    → ((j : ℕ) → n ≤ 2 ^ j → 2 ^ k ≤ 2 ^ j)
    → unwrap_or (find (λ power. nat_le n power) (map (λ i. 2 ^ i) (range_with_len from len))) 0 ≡ 2
    ^ k
find-power n k from zero low high enough least = absurd (omega arith)
find-power n k from (suc len) low high enough least =
    elim (cases_Bool (nat_le n (2 ^ from))) [
      | inl e ↦
          let down : 2 ^ k ≤ 2 ^ from = least from (leb-true n (2 ^ from) e) in
          let up : 2 ^ from ≤ 2 ^ k = pow-le-pow_right {n = 2} (lit< tt) low in
          rw e (omega arith)
      | inr e ↦ (
          let short : 2 ^ from < n = leb-false n (2 ^ from) e in
          elim (cases_eq from k) [
            | inl same ↦ absurd (let s : 2 ^ from ≡ 2 ^ k = ap (λ i. 2 ^ i) same in omega arith)
            | inr other ↦
                rw e (find-power n k (from + 1) len (omega arith) (omega arith) enough least)
          ])
    ]

below-power : (k j : ℕ) → 2 ^ k ≤ 2 ^ j → k < suc j
below-power k j h =
    elim (cases_lt j k) [
      | inl below ↦ absurd (let more = pow-lt below in omega arith)
      | inr above ↦ omega arith
    ]

-- the next power of a number is the one that the search finds
pub first_power-next : (n p : ℕ) → IsPowerOfTwo p → 0 < n → n ≤ 65536 → n ≤ p → p / 2 < max 1 n
    → p ≡ first_power n
unfolding first_power
first_power-next n p power some small enough near =
    let near : 2 ^ power.0 / 2 < n = rw (sym power.1) (omega arith) in
    let least : (j : ℕ) → n ≤ 2 ^ j → 2 ^ power.0 ≤ 2 ^ j =
    λ j h. next_power-least n power.0 j some near h in
    power.1 ∙ sym (find-power n power.0 0 33 (omega arith)
    ((let few = below-power power.0 16 (least 16 small) in omega arith))
    (rw (sym power.1) enough) least)

-- the least power of two, from its clauses, is below any other from n on
pub power-least : (n p j : ℕ) → IsPowerOfTwo p → 0 < n → p / 2 < max 1 n → n ≤ 2 ^ j → p ≤ 2 ^ j
power-least n p j power some near enough =
    rw power.1 (next_power-least n power.0 j some (rw (sym power.1) (omega arith)) enough)

-- the search finds no power over this one, where this one is enough and is among those to come
find-small : (n from len : ℕ) → n ≤ 2 ^ 16 → from ≤ 16 → 16 < from + len
    → unwrap_or (find (λ power. nat_le n power) (map (λ i. 2 ^ i) (range_with_len from len))) 0
    ≤ 2 ^ 16
find-small n from zero small low high = absurd (omega arith)
find-small n from (suc len) small low high =
    elim (cases_Bool (nat_le n (2 ^ from))) [
      | inl e ↦ rw e (pow-le-pow_right {n = 2} (lit< tt) low)
      | inr e ↦ (
          let short : 2 ^ from < n = leb-false n (2 ^ from) e in
          elim (cases_eq from 16) [
            | inl last ↦ absurd (let s : 2 ^ from ≡ 2 ^ 16 = ap (λ i. 2 ^ i) last in omega arith)
            | inr other ↦ rw e (find-small n (from + 1) len small (omega arith) (omega arith))
          ])
    ]

-- a rounded size is a number of 32 bits
pub rounded-number : (n : ℕ) → n ≤ 65536 → rounded_up n < 2 ^ 32
unfolding first_power
rounded-number n small =
    elim (cases_Bool (n == 0)) [
      | inl none ↦ rw none (omega arith)
      | inr some ↦ rw some
          (let found = find-small n 0 33 small (omega arith) (omega arith) in omega arith)
    ]

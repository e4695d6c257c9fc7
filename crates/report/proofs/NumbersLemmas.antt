-- Hexadecimal digits, one after another, and by way of the halves of bytes.
use Rattle.std.proofs.Common.{◌≡◌, ◌≤◌, ◌<◌, ℕ, zero, suc, ◌+◌, ◌-◌, ◌*◌, ◌/◌, ◌%◌, ◌^◌, List, []}
use Rattle.std.proofs.Common.{◌∷◌, ◌++◌, ◌∙◌, length, arith, refl, ap, drop, sym, take, get_or, map}
use Rattle.std.proofs.Common.{reverse, bit_and, w8, true, eqb}
use Rattle.std.proofs.lemmas.Bool.{agree_below, agree_below_at, eqb-true}
use Rattle.std.proofs.lemmas.List.{take_rest, get_or-map, ext_get_or, length-map, map-append}
use Rattle.std.proofs.lemmas.List.{reverse-append}
use Rattle.std.proofs.lemmas.Nat.{shr-shr, and_mask}
use Rattle.std.proofs.lemmas.Simd.{swz_l, length-swz_l, get_or-swz_l_below, Each1-get_or}
use lib.Lanes.{Each1, digits_l}
use Rattle.report.specs.Numbers.{hex_digit, hex_digits}
use Rattle.report.specs.declared.numbers.TheConstants.{DIGITS}

pub length-hex_digits : (k n : ℕ) → length (hex_digits k n) ≡ k
unfolding hex_digits
length-hex_digits zero n = refl
length-hex_digits (suc k) n = omega (arith, length-hex_digits k n)

-- the digits of a number from place j on, and those below
hex_digits-append : (k j n : ℕ) → hex_digits k (n / 2 ^ (4 * j)) ++ hex_digits j n ≡ hex_digits
    (k + j) n
unfolding hex_digits
hex_digits-append zero j n = let none : 0 + j ≡ j = omega arith in rw none refl
hex_digits-append (suc k) j n =
    let one : suc k + j ≡ suc (k + j) = omega arith in
    let places : 4 * j + 4 * k ≡ 4 * (k + j) = omega arith in
    let at = shr-shr n (4 * j) (4 * k) ∙ ap (λ e. n / 2 ^ e) places in
    rw (one, at) (ap (λ r. hex_digit (n / 2 ^ (4 * (k + j)) % 16) ∷ r) (hex_digits-append k j n))

hex_digits-last : (k j n : ℕ) → drop k (hex_digits (k + j) n) ≡ hex_digits j n
unfolding hex_digits
hex_digits-last zero j n = let none : 0 + j ≡ j = omega arith in rw none refl
hex_digits-last (suc k) j n =
    let one : suc k + j ≡ suc (k + j) = omega arith in
    rw one (hex_digits-last k j n)

-- fewer than 32 digits are the last of 32
pub last_digits : (left n : ℕ) → left ≤ 32
    → take (32 - (32 - left)) (drop (32 - left) (hex_digits 32 n)) ≡ hex_digits left n
last_digits left n h =
    let all : 32 - left + left ≡ 32 = omega arith in
    let last : drop (32 - left) (hex_digits 32 n) ≡ hex_digits left n =
    rw all at (hex_digits-last (32 - left) left n) in
    ap (λ k. take (k - (32 - left)) (drop (32 - left) (hex_digits 32 n)))
    (sym (length-hex_digits 32 n)) ∙ take_rest (hex_digits 32 n) (32 - left) ∙ last

-- the lower and the higher half of each byte
abbrev pub byte_halves : List ℕ → List ℕ
byte_halves [] = []
byte_halves (b ∷ bs) = bit_and b 15 ∷ b / 2 ^ 4 ∷ byte_halves bs

pub halves-digits : (k n : ℕ) → byte_halves (digits_l 256 k n) ≡ digits_l 16 (2 * k) n
halves-digits zero n = refl
halves-digits (suc k) n =
    let two : 2 * suc k ≡ suc (suc (2 * k)) = omega arith in
    let low : bit_and (n % 256) 15 ≡ n % 16 = and_mask (n % 256) 4 ∙ omega arith in
    let high : n % 256 / 2 ^ 4 ≡ n / 16 % 16 = omega arith in
    let up : n / 256 ≡ n / 16 / 16 = omega arith in
    let rest = halves-digits k (n / 256) ∙ ap (digits_l 16 (2 * k)) up in
    rw two (λ i. low i ∷ high i ∷ rest i)

-- what a table holds for each number below n, where it was compared for all of them
held : (table : List ℕ) (place value : ℕ → ℕ) (n p : ℕ) → agree_below
    (λ q. eqb (get_or table (place q) 0) (value q)) (λ q. true) n ≡ true → p < n
    → get_or table (place p) 0 ≡ value p
held table place value n p all small = eqb-true _ _ (agree_below_at (λ q. eqb
    (get_or table (place q) 0) (value q)) (λ q. true) n p all small)

-- a digit in either block of the table
digit_at : (block d : ℕ) → block < 2 → d < 16 → get_or DIGITS (16 * block + d) 0 ≡ hex_digit d
digit_at block d low small =
    let rest : (16 * block + d) % 16 ≡ d = omega arith in
    held DIGITS (λ m. m) (λ m. hex_digit (m % 16)) 32 (16 * block + d) refl (omega arith)
    ∙ ap hex_digit rest

pub looked_up : (ds : List ℕ) → length ds ≡ 32 → Each1 (λ d. d < 16) ds
    → swz_l w8 16 DIGITS 0 ds ≡ map hex_digit ds
looked_up ds long small =
    let same = length-swz_l w8 16 DIGITS 0 ds in
    ext_get_or 0 _ _ (same ∙ sym (length-map ds hex_digit)) (λ i h.
    let within : i < length ds = omega (arith, same) in
    let below = Each1-get_or (λ d. d < 16) ds i 0 within small in
    get_or-swz_l_below w8 16 DIGITS 0 ds i within below
    ∙ digit_at ((0 + i) / 16) (get_or ds i 0) (omega arith) below
    ∙ sym (get_or-map hex_digit ds i 0 0 within))

-- the digits in base 16 as text
pub spelled : (k n : ℕ) → map hex_digit (reverse (digits_l 16 k n)) ≡ hex_digits k n
unfolding hex_digits
spelled zero n = refl
spelled (suc k) n =
    let one : k + 1 ≡ suc k = omega arith in
    let last : n / 2 ^ (4 * 0) % 16 ≡ n % 16 = omega arith in
    let front = reverse (digits_l 16 k (n / 16)) in
    ap (map hex_digit) (reverse-append (n % 16 ∷ []) (digits_l 16 k (n / 16)))
    ∙ map-append hex_digit front (n % 16 ∷ [])
    ∙ ap (λ r. r ++ hex_digit (n % 16) ∷ []) (spelled k (n / 16))
    ∙ ap (λ d. hex_digits k (n / 16) ++ hex_digit d ∷ []) (sym last)
    ∙ hex_digits-append k 1 n ∙ ap (λ j. hex_digits j n) one

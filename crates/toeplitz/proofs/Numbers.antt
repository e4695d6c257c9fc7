-- Bytes as one number, in parts.
use Rattle.std.proofs.Common.{suc, ◌≡◌, ◌<◌, ◌≤◌, ℕ, ◌+◌, ◌-◌, ◌*◌, ◌/◌, ◌%◌, ◌^◌, List, [], ◌∷◌}
use Rattle.std.proofs.Common.{◌++◌, length, take, drop, get_or, length-append, length-drop, lit<}
use Rattle.std.proofs.Common.{refl, sym, ap, ◌∙◌, arith}
use Rattle.std.proofs.lemmas.Nat.{pow-add, mul-add-lt, div-mul-add, mod-mul-add}
use Rattle.std.proofs.lemmas.List.{take_more, take-append-drop, length-take-le}
use Rattle.std.specs.List.{All}
use Rattle.std.proofs.lemmas.List.Elements.{All-head, All-tail, All-take, All-drop}
use Rattle.std.proofs.Math.Nat.{pow-le-pow_right}
use Rattle.toeplitz.specs.Toeplitz.{number_of}

abbrev pub IsByte : ℕ → Type 0
IsByte n = n < 256

-- each number is a byte
abbrev pub AreBytes : List ℕ → Type 0
AreBytes bytes = All IsByte bytes

power_of_both : (x : ℕ) (a b : ℕ) → x * 2 ^ (8 * (a + b)) ≡ x * (2 ^ (8 * a) * 2 ^ (8 * b))
power_of_both x a b =
    let e : 8 * (a + b) ≡ 8 * a + 8 * b = omega arith in
    rw (e, pow-add 2 (8 * a) (8 * b)) refl

pub number_of-append : (xs ys : List ℕ) → number_of (xs ++ ys) ≡ number_of xs * 2 ^
    (8 * length ys) + number_of ys
number_of-append [] ys = omega arith
number_of-append (x ∷ xs) ys =
    rw (length-append xs ys, power_of_both x (length xs) (length ys), number_of-append xs ys)
    (omega arith)

-- one byte more
pub number_of-more : (xs : List ℕ) (i : ℕ) → i < length xs
    → number_of (take (i + 1) xs) ≡ number_of (take i xs) * 256 + get_or xs i 0
number_of-more xs i h = rw (take_more xs i 0 h, number_of-append (take i xs) (get_or xs i 0 ∷ []))
    (omega arith)

pub fits_more : (n i b : ℕ) → n < 2 ^ (8 * i) → b < 256 → n * 256 + b < 2 ^ (8 * (i + 1))
fits_more n i b h l =
    let e : 8 * (i + 1) ≡ 8 * i + 8 = omega arith in
    rw (e, pow-add 2 (8 * i) 8) (omega (arith, mul-add-lt n 256 b (2 ^ (8 * i)) h l))

pub fits_word : (n i : ℕ) → n < 2 ^ (8 * i) → i < 5 → n < 2 ^ 32
fits_word n i h k =
    let within : 8 * i ≤ 32 = omega arith in
    let top : 2 ^ (8 * i) ≤ 2 ^ 32 = pow-le-pow_right (lit< tt) within in
    omega (arith, top)

pub number_of-lt : (xs : List ℕ) → AreBytes xs → number_of xs < 2 ^ (8 * length xs)
number_of-lt [] h = omega arith
number_of-lt (x ∷ xs) h =
    let byte : x < 256 = All-head IsByte x xs h in
    let rest : number_of xs < 2 ^ (8 * length xs) = number_of-lt xs (All-tail IsByte x xs h) in
    let e : 8 * suc (length xs) ≡ 8 + 8 * length xs = omega arith in
    rw (e, pow-add 2 8 (8 * length xs)) (omega (
      arith,
      mul-add-lt x (2 ^ (8 * length xs))
          (number_of xs) 256 byte rest,
    ))

same_sum : (front part tail a b : ℕ)
    → front * (a * b) + (part * b + tail) ≡ (front * a + part) * b + tail
same_sum front part tail a b = grind arith

-- the low 40 of the bits above the lowest k
cut : (front part tail k : ℕ) → part < 2 ^ 40 → tail < 2 ^ k
    → (front * 2 ^ (40 + k) + (part * 2 ^ k + tail)) / 2 ^ k % 2 ^ 40 ≡ part
cut front part tail k small low =
    let joined : front * 2 ^ (40 + k) + (part * 2 ^ k + tail) ≡ (front * 2 ^ 40 + part) * 2 ^
    k + tail =
    rw (pow-add 2 40 k) (same_sum front part tail (2 ^ 40) (2 ^ k)) in
    rw (joined, div-mul-add (front * 2 ^ 40 + part) (2 ^ k) tail low)
    (mod-mul-add front (2 ^ 40) part small)

-- the number of five of the bytes, cut out of the number of all
pub number_of_part : (bytes : List ℕ) (place : ℕ) → AreBytes bytes → length bytes ≡ 40 → place < 36
    → number_of (take 5 (drop place bytes)) ≡ number_of bytes / 2 ^ (8 * (35 - place)) % 2 ^ 40
number_of_part bytes place h forty within =
    let front = take place bytes in
    let part = take 5 (drop place bytes) in
    let tail = drop 5 (drop place bytes) in
    let long : length (drop place bytes) ≡ 40 - place = omega (arith, length-drop place bytes) in
    let five : length part ≡ 5 = length-take-le 5 (drop place bytes) (omega arith) in
    let after : length tail ≡ 35 - place = omega (arith, length-drop 5 (drop place bytes)) in
    let last : AreBytes (drop place bytes) = All-drop IsByte place bytes h in
    let rest_small : number_of tail < 2 ^ (8 * (35 - place)) =
    rw (← after) (number_of-lt tail (All-drop IsByte 5 (drop place bytes) last)) in
    let part_small : number_of part < 2 ^ 40 =
    rw five at (number_of-lt part (All-take IsByte 5 (drop place bytes) last)) in
    let all : number_of bytes ≡ number_of front * 2 ^ (8 * length (drop place bytes)) + number_of
    (drop place bytes) =
    ap number_of (sym (take-append-drop place bytes)) ∙ number_of-append front (drop place bytes) in
    let behind : number_of (drop place bytes) ≡ number_of part * 2 ^
    (8 * length tail) + number_of tail =
    ap number_of (sym (take-append-drop 5 (drop place bytes))) ∙ number_of-append part tail in
    let above : 8 * length (drop place bytes) ≡ 40 + 8 * (35 - place) = omega arith in
    let parts = cut (number_of front) (number_of part) (number_of tail)
    (8 * (35 - place)) part_small rest_small in
    rw (all, above, behind, after) (sym parts)

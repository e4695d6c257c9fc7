-- The number that bytes give, each as a digit.
use Rattle.std.proofs.Common.{ℕ, zero, suc, ◌≡◌, ◌≤◌, ◌<◌, ◌+◌, ◌-◌, ◌*◌, ◌%◌, ◌^◌, List, []}
use Rattle.std.proofs.Common.{◌∷◌, ◌++◌, Some, length, take, drop, refl, ap, ◌∙◌, sym, arith}
use Rattle.std.proofs.Common.{decimal, get_or, inl, inr, map, min, subst}
use Rattle.std.specs.List.{All}
use Rattle.std.proofs.lemmas.Bool.{cases_lt}
use Rattle.std.proofs.lemmas.Fmt.{decimal_nonempty}
use Rattle.std.proofs.lemmas.List.{get_or-map, get_or-take, get_or_past, length-map, length-take}
use Rattle.std.proofs.lemmas.List.Elements.{All-get_or}
use Rattle.std.specs.Prelude.{slice_index}
use Rattle.report.proofs.Digits.{AreDigits, decimal-AreDigits}
use Rattle.steer_base.specs.Decimals.{digits_from}
use Rattle.report_reader.specs.Ends.{piece}
use Rattle.report_reader.specs.Values.{IsNumber}
use Rattle.report_reader.proofs.EndsLemmas.{drop-plus}
use Rattle.report_reader.proofs.ValuesLemmas.{digits-of, goes}

-- a number of 64 bits with one more digit; a byte that is none counts as some number
abbrev pub next_number : (number byte : ℕ) → ℕ
next_number number byte =
    (((number * 10) % 2 ^ 64 + byte) % 2 ^ 64 + (2 ^ 64 - 48)) % 2 ^ 64

-- the number that bytes go on with, each as a digit
abbrev pub number_from : (number : ℕ) → (bytes : List ℕ) → ℕ
number_from number [] = number
number_from number (byte ∷ bytes) = number_from (next_number number byte) bytes

-- ---- a decimal text gives its number

at-least : (k n : ℕ) (ds : List ℕ) → AreDigits ds → digits_from k ds ≡ Some n → k ≤ n
at-least k n [] h e = let f : k ≡ n = cc in omega (arith, f)
at-least k n (c ∷ cs) h e =
    let more = at-least (k * 10 + (c - 48)) n cs h.2 (sym (goes k c cs h.0 h.1) ∙ e) in
    omega (arith, more)

digit-more : (k c : ℕ) → 48 ≤ c → c ≤ 57 → k * 10 + (c - 48) < 2 ^ 64
    → next_number k c ≡ k * 10 + (c - 48)
digit-more k c a b fits = omega (arith, a, b, fits)

digits-give : (k n : ℕ) (ds : List ℕ) → AreDigits ds → digits_from k ds ≡ Some n → n < 2 ^ 64
    → number_from k ds ≡ n
digits-give k n [] h e fits = cc
digits-give k n (c ∷ cs) h e fits =
    let next : digits_from (k * 10 + (c - 48)) cs ≡ Some n = sym (goes k c cs h.0 h.1) ∙ e in
    let least = at-least (k * 10 + (c - 48)) n cs h.2 next in
    let more = digit-more k c h.0 h.1 (omega (arith, least, fits)) in
    ap (λ m. number_from m cs) more ∙ digits-give (k * 10 + (c - 48)) n cs h.2 next fits

-- the digits of a number below 2^64 give it
pub decimal-gives : (n : ℕ) → n < 2 ^ 64 → number_from 0 (decimal n) ≡ n
decimal-gives n h = digits-give 0 n (decimal n) (decimal-AreDigits n) (digits-of n h) h

-- ---- the number of a piece, byte by byte

number-join : (k : ℕ) (xs ys : List ℕ)
    → number_from k (xs ++ ys) ≡ number_from (number_from k xs) ys
number-join k [] ys = refl
number-join k (x ∷ xs) ys = number-join (next_number k x) xs ys

take-none : (n : ℕ) → take {A = ℕ} n [] ≡ []
take-none zero = refl
take-none (suc n) = refl

take-plus : (m n k : ℕ) (xs : List ℕ) → k ≡ m + n → take k xs ≡ take m xs ++ take n (drop m xs)
take-plus zero n k xs e = let f : k ≡ n = omega (arith, e) in ap (λ i. take i xs) f
take-plus (suc m) n zero xs e = absurd (omega (arith, e))
take-plus (suc m) n (suc k) [] e = sym (take-none n)
take-plus (suc m) n (suc k) (x ∷ xs) e =
    ap (λ l. x ∷ l) (take-plus m n k xs (omega (arith, e)))

piece-join : (bytes : List ℕ) (a b c : ℕ) → a ≤ b → b ≤ c
    → piece bytes a c ≡ piece bytes a b ++ piece bytes b c
piece-join bytes a b c p q =
    take-plus (b - a) (c - b) (c - a) (drop a bytes) (omega (arith, p, q))
    ∙ ap (λ l. piece bytes a b ++ take (c - b) l)
    (sym (drop-plus a (b - a) b bytes (omega (arith, p))))

one-byte : (bytes : List ℕ) (a : ℕ) → a < length bytes
    → take 1 (drop a bytes) ≡ slice_index bytes a ∷ []
one-byte [] a lt = absurd (omega (arith, lt))
one-byte (x ∷ xs) zero lt = refl
one-byte (x ∷ xs) (suc a) lt = one-byte xs a (omega (arith, lt))

piece-one : (bytes : List ℕ) (a : ℕ) → a < length bytes
    → piece bytes a (a + 1) ≡ slice_index bytes a ∷ []
piece-one bytes a lt =
    let one : (a + 1) - a ≡ 1 = omega arith in
    ap (λ n. take n (drop a bytes)) one ∙ one-byte bytes a lt

-- with one more byte
pub number-more : (k : ℕ) (bytes : List ℕ) (a b m : ℕ) → a ≤ b → b < length bytes
    → m ≡ number_from k (piece bytes a b)
    → next_number m (slice_index bytes b) ≡ number_from k (piece bytes a (b + 1))
number-more k bytes a b m p lt e =
    sym (ap (number_from k) (piece-join bytes a b (b + 1) p (omega arith)
    ∙ ap (λ l. piece bytes a b ++ l) (piece-one bytes b lt))
    ∙ number-join k (piece bytes a b) (slice_index bytes b ∷ [])
    ∙ ap (λ n. next_number n (slice_index bytes b)) (sym e))

-- what was added up is the number of the bytes
pub adds-up : (bytes : List ℕ) (number : ℕ) → number ≡ number_from 0 bytes → IsNumber bytes number
adds-up bytes number e n h d = e ∙ ap (number_from 0) d ∙ decimal-gives n h

-- no bytes are no number
empty-number : (text : List ℕ) (number : ℕ) → text ≡ [] → IsNumber text number
empty-number text number e n h d =
    let some = decimal_nonempty n h in
    let none : length (decimal n) ≡ 0 = ap length (sym d ∙ e) in
    absurd (omega (arith, some, none))

-- ---- the field of a number, and the number that it is

module _ {A : Type 0} (text : A → List ℕ) (xs : List A) (n i : ℕ) where
  long : length (take n xs) ≡ min n (length xs)
  long = length-take n xs

  same : length (map text (take n xs)) ≡ length (take n xs)
  same = length-map (take n xs) text

  -- there is no field behind the last
  past : min n (length xs) ≤ i → IsNumber (get_or (map text (take n xs)) i []) 0
  past l =
      empty-number (get_or (map text (take n xs)) i []) 0
      (get_or_past (map text (take n xs)) i [] (omega (arith, l, long, same)))

  pub number-past : n ≤ i → IsNumber (get_or (map text (take n xs)) i []) 0
  number-past l = past (omega (arith, l))

  inside : (number : A → ℕ) (d : A) → i < n → i < length xs
      → All (λ x. IsNumber (text x) (number x)) (take n xs)
      → IsNumber (get_or (map text (take n xs)) i []) (number (get_or xs i d))
  inside number d l m all =
      let in' : i < length (take n xs) = omega (arith, l, m, long) in
      let here : get_or (take n xs) i d ≡ get_or xs i d = get_or-take n xs i d l in
      let at : text (get_or (take n xs) i d) ≡ get_or (map text (take n xs)) i [] =
      sym (get_or-map text (take n xs) i d [] in') in
      subst (λ x. IsNumber (get_or (map text (take n xs)) i []) (number x)) here
      (subst (λ t. IsNumber t (number (get_or (take n xs) i d))) at
      (All-get_or (λ x. IsNumber (text x) (number x)) (take n xs) i d in' all))

  pub number-at : (number : A → ℕ) (d : A) → number d ≡ 0 → i < n
      → All (λ x. IsNumber (text x) (number x)) (take n xs)
      → IsNumber (get_or (map text (take n xs)) i []) (number (get_or xs i d))
  number-at number d none l all = elim (cases_lt i (length xs)) [
    | inl m ↦ inside number d l m all
    | inr k ↦
        subst (IsNumber (get_or (map text (take n xs)) i []))
        (sym (ap number (get_or_past xs i d k) ∙ none)) (past (omega (arith, k)))
  ]

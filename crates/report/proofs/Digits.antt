-- A decimal number has digits alone: so it has no space, no line feed and no comma, and is no dash.
use Rattle.std.proofs.Common.{◌≡◌, ◌⊎◌, ℕ, zero, suc, ◌<◌, ◌≤◌, ◌+◌, ◌/◌, ◌%◌, ◌^◌, Bool, true}
use Rattle.std.proofs.Common.{false, cond, List, [], ◌∷◌, length, refl, ap, arith, decimal, inl}
use Rattle.std.proofs.Common.{inr}
use Rattle.std.specs.Prelude.{◌==◌, nat_lt, slice_index, ⊤}
use Rattle.std.specs.Fmt.{digits, digit_glyph, digits_onto}
use Rattle.std.proofs.lemmas.Bool.{lt-ltb}
use Rattle.std.proofs.lemmas.Fmt.{decimal_nonempty}
use Rattle.report.specs.Texts.{IsField}

-- only digits
abbrev pub AreDigits : List ℕ → Type 0
AreDigits [] = ⊤
AreDigits (d ∷ ds) = (48 ≤ d) × (d ≤ 57) × AreDigits ds

glyph : (d : ℕ) → d < 10 → digit_glyph false d ≡ 48 + d
glyph d l = let t : nat_lt d 10 ≡ true = lt-ltb d 10 l in rw t refl

one_more : (n : ℕ) (ds : List ℕ) → AreDigits ds → AreDigits (digit_glyph false (n % 10) ∷ ds)
one_more n ds h = let g = glyph (n % 10) (omega arith) in (omega (arith, g), omega (arith, g), h)

either : (b : Bool) (xs ys : List ℕ) → AreDigits xs → AreDigits ys → AreDigits (cond b xs ys)
either true xs ys a b = a
either false xs ys a b = b

onto-AreDigits : (k n : ℕ) (ds : List ℕ) → AreDigits ds → AreDigits (digits_onto k 10 false n ds)
onto-AreDigits zero n ds h = h
onto-AreDigits (suc k) n ds h =
    either (n / 10 == 0) (digit_glyph false (n % 10) ∷ ds) (digits_onto k 10 false (n / 10)
    (digit_glyph false (n % 10) ∷ ds))
    (one_more n ds h) (onto-AreDigits k (n / 10) (digit_glyph false (n % 10) ∷ ds)
    (one_more n ds h))

pub decimal-AreDigits : (n : ℕ) → AreDigits (decimal n)
unfolding digits
decimal-AreDigits n = onto-AreDigits 64 n [] tt

pub digits-IsField : (ds : List ℕ) → AreDigits ds → IsField ds
digits-IsField [] h = tt
digits-IsField (d ∷ ds) h = (
  (λ e. omega (arith, h.0, e)),
  (λ e. omega (arith, h.0, e)),
  digits-IsField ds h.2,
)

-- a number is a field
pub decimal-IsField : (n : ℕ) → IsField (decimal n)
decimal-IsField n = digits-IsField (decimal n) (decimal-AreDigits n)

first_digit : (ds : List ℕ) → AreDigits ds → 0 < length ds → (x : ℕ) → slice_index ds 0 ≡ x
    → (x < 48) ⊎ (57 < x) → ⊥
first_digit [] h l x e d = omega (arith, l)
first_digit (y ∷ ds) h l x e (inl d) = omega (arith, h.0, e, d)
first_digit (y ∷ ds) h l x e (inr d) = omega (arith, h.1, e, d)

-- a number is no text that begins with another byte than a digit
pub no_number : (n : ℕ) (xs : List ℕ) → n < 2 ^ 64 → (slice_index xs 0 < 48)
    ⊎ (57 < slice_index xs 0) → decimal n ≡ xs → ⊥
no_number n xs h d e = first_digit (decimal n) (decimal-AreDigits n) (decimal_nonempty n h)
    (slice_index xs 0) (ap (λ ys. slice_index ys 0) e) d

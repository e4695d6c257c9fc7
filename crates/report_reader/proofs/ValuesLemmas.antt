-- The values of fields.
use Rattle.std.proofs.Common.{ℕ, ◌≡◌, ◌≤◌, ◌<◌, ◌+◌, ◌-◌, ◌*◌, ◌^◌, true}
use Rattle.std.proofs.Common.{List, [], ◌∷◌, Option, Some, None, length, refl, ap, ◌∙◌, sym, arith}
use Rattle.std.proofs.Common.{decimal, inl, lit<}
use Rattle.std.specs.Prelude.{nat_le, nat_lt, codes, ◌&&◌, unwrap_or}
use Rattle.std.proofs.lemmas.Bool.{le-leb, lt-ltb}
use Rattle.std.proofs.lemmas.Fmt.{decimal_nonempty, length-decimal-le, digits_value-decimal}
use Rattle.std.proofs.lemmas.Str.Parse.{numerals_by_fold, tells_digits, FoldsDigits}
use Rattle.std.proofs.Math.Nat.{pow-le-pow_right}
use Rattle.history.specs.Ranges.{FitsIn}
use Rattle.report.specs.Lines.{or_dash}
use Rattle.report.proofs.Digits.{AreDigits, decimal-AreDigits, no_number}
use Rattle.steer_base.specs.Decimals.{decimal_number, digits_from}

abbrev folded : ℕ → List ℕ → ℕ
folded n ds = unwrap_or (digits_from n ds) 0

in_range : (c : ℕ) → 48 ≤ c → c ≤ 57 → (nat_le 48 c && nat_le c 57) ≡ true
in_range c a b = let s : nat_le 48 c ≡ true = le-leb 48 c a in let t : nat_le c 57 ≡ true =
    le-leb c 57 b in rw (s, t) refl

pub goes : (n c : ℕ) (cs : List ℕ) → 48 ≤ c → c ≤ 57 → digits_from n (c ∷ cs) ≡ digits_from
    (n * 10 + (c - 48)) cs
goes n c cs a b = rw (in_range c a b) refl

folds : FoldsDigits folded
folds = record {
  empty = λ n. refl;
  more = λ n c cs k. ap (λ o. unwrap_or o 0) (goes n c cs k.0 k.1);
}

is-number : (n : ℕ) (ds : List ℕ) → AreDigits ds → digits_from n ds ≡ Some (folded n ds)
is-number n [] h = refl
is-number n (c ∷ cs) h =
    let g = goes n c cs h.0 h.1 in
    g ∙ is-number (n * 10 + (c - 48)) cs h.2 ∙ ap (λ o. Some (unwrap_or o 0)) (sym g)

-- the digits of a number go on to it
pub digits-of : (n : ℕ) → n < 2 ^ 64 → digits_from 0 (decimal n) ≡ Some n
digits-of n h =
    is-number 0 (decimal n) (decimal-AreDigits n)
    ∙ ap (λ m. Some m) (digits_value-decimal (numerals_by_fold _ tells_digits folded folds) n h)

-- a decimal text is read as its number
pub read-decimal : (n : ℕ) → n < 2 ^ 64 → decimal_number 20 (decimal n) ≡ Some n
unfolding decimal_number
read-decimal n h =
    let long : length (decimal n) ≤ 20 = length-decimal-le 20 n (omega arith) (omega (arith, h)) h
    in
    let s : nat_lt 0 (length (decimal n)) ≡ true = lt-ltb 0 (length (decimal n))
    (decimal_nonempty n h) in
    let t : nat_le (length (decimal n)) 20 ≡ true = le-leb (length (decimal n)) 20 long in
    rw (s, t) (digits-of n h)

pub read-number : (n : ℕ) (field : List ℕ) (o : Option ℕ) → n < 2 ^ 64 → field ≡ decimal n
    → o ≡ decimal_number 20 field → o ≡ Some n
read-number n field o h e r = r ∙ ap (decimal_number 20) e ∙ read-decimal n h

-- a number is no dash
pub no-dash : (n : ℕ) → n < 2 ^ 64 → decimal n ≡ codes "-" → ⊥
no-dash n h e = no_number n (codes "-") h (inl (omega arith)) e

-- an option from its field
pub some-option : (o : Option ℕ) (n : ℕ) (field : List ℕ) (bits : ℕ) → field ≡ or_dash o
    → (field ≡ codes "-" → ⊥) → FitsIn bits o
    → ((m : ℕ) → m < 2 ^ bits → field ≡ decimal m → n ≡ m) → Some n ≡ o
some-option None n field bits e d f h = absurd (d e)
some-option (Some m) n field bits e d f h = ap (λ k. Some k) (h m f e)

below : (m bits : ℕ) → bits ≤ 32 → m < 2 ^ bits → m < 2 ^ 64
below m bits s f = let p : 2 ^ bits ≤ 2 ^ 32 = pow-le-pow_right (lit< tt) s in omega (arith, f, p)

pub none-option : (o : Option ℕ) (field : List ℕ) (bits : ℕ) → bits ≤ 32 → field ≡ or_dash o
    → field ≡ codes "-" → FitsIn bits o → None ≡ o
none-option None field bits s e d f = refl
none-option (Some m) field bits s e d f = absurd (no-dash m (below m bits s f) (sym e ∙ d))

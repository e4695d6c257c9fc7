-- The members of a set are read one after the other.
use Rattle.std.proofs.Common.{ℕ, zero, suc, ◌≡◌, ◌≢◌, ◌≤◌, ◌<◌, ◌+◌, ◌-◌, ◌*◌, ◌^◌, ◌++◌, Bool}
use Rattle.std.proofs.Common.{true, false, List, [], ◌∷◌, length, drop, decimal, refl, ap, ◌∙◌, sym}
use Rattle.std.proofs.Common.{subst, append-nil, arith, get_or, inl, inr}
use Rattle.std.specs.Prelude.{codes, ◌==◌, ◌||◌, ◌&&◌, nat_lt, cond, bit_and, min}
use Rattle.std.specs.Int.{bit_at}
use Rattle.std.specs.List.{filter, list_any, range_with_len}
use Rattle.std.proofs.Math.ListN.{drop_of_length-le}
use Rattle.std.proofs.lemmas.Bool.{cases_eq, eq-eqb, lt-ltb, ne_eqb}
use Rattle.std.proofs.lemmas.Fmt.{decimal_nonempty, digits_value-decimal, length-decimal-le}
use Rattle.std.proofs.lemmas.List.{drop_more, length-append}
use Rattle.std.proofs.lemmas.Str.Parse.{FoldsDigits, numerals_by_fold, tells_digits}
use Rattle.report.specs.Commands.{cpus_field, queues_field, set_field, with_commas}
use Rattle.report.proofs.Digits.{AreDigits, decimal-AreDigits}
use Rattle.steer_base.specs.Sets.{has, has_queue, in_bits, those_below}
use Rattle.std.proofs.lemmas.Nat.Bits.{bit_at-lt, bit_at-zero, bit_at_and, bit_at_ones}
use Rattle.std.proofs.lemmas.Nat.Bits.{same_from_bits_below}
use Rattle.steer_base.specs.declared.cpu_mask.CpuMask.{CpuMask}
use Rattle.report_reader.specs.Members.{AreLow}

-- digits as a number
abbrev pub value : ℕ → List ℕ → ℕ
value v [] = v
value v (d ∷ ds) = value (v * 10 + (d - 48)) ds

folds : FoldsDigits value
folds = record { empty = λ n. refl; more = λ n c cs k. refl }

value-decimal : (n : ℕ) → n < 2 ^ 64 → value 0 (decimal n) ≡ n
value-decimal n h = digits_value-decimal (numerals_by_fold _ tells_digits value folds) n h

value-append : (v : ℕ) (ds es : List ℕ) → value v (ds ++ es) ≡ value (value v ds) es
value-append v [] es = refl
value-append v (d ∷ ds) es = value-append (v * 10 + (d - 48)) ds es

digits-left : (ds es : List ℕ) → AreDigits (ds ++ es) → AreDigits ds
digits-left [] es a = tt
digits-left (d ∷ ds) es a = (a.0, a.1, digits-left ds es a.2)

digits-right : (ds es : List ℕ) → AreDigits (ds ++ es) → AreDigits es
digits-right [] es a = a
digits-right (d ∷ ds) es a = digits-right ds es a.2

one-digit : (ds : List ℕ) → AreDigits ds → length ds ≤ 1 → value 0 ds < 10
one-digit [] a l = omega arith
one-digit (d ∷ []) a l = omega (arith, a.0, a.1)
one-digit (d ∷ e ∷ ds) a l = absurd (omega (arith, l))

-- a place in the text of a set: the members that were read, the one that is being read, and what
-- follows
pub record At (field : List ℕ) (k : ℕ) (mask : CpuMask) (member : ℕ) (ns : List ℕ) : Type 0 where
  pub done : List ℕ
  pub this : ℕ
  pub more : List ℕ
  pub read : List ℕ
  pub left : List ℕ
  pub joins : done ++ (this ∷ more) ≡ ns
  pub low : this < 32
  pub lows : AreLow more
  pub digits : decimal this ≡ read ++ left
  pub text : drop k field ≡ left ++ with_commas more
  pub member_is : member ≡ value 0 read
  pub has_done : (x : ℕ) → has mask x ≡ list_any (λ n. n == x) done

abbrev pub KeepsMembers : List ℕ → ℕ → CpuMask → ℕ → Type 0
KeepsMembers field k mask member = (ns : List ℕ) → AreLow ns → field ≡ set_field ns
    → At field k mask member ns

-- the same, where the field is no dash
abbrev pub KeepsDashless : List ℕ → ℕ → CpuMask → ℕ → Type 0
KeepsDashless field k mask member =
    (field ≡ codes "-" → ⊥) → (ns : List ℕ) → AreLow ns → field ≡ set_field ns
    → At field k mask member ns

any-append : (p : ℕ → Bool) (xs ys : List ℕ)
    → list_any p (xs ++ ys) ≡ (list_any p xs || list_any p ys)
any-append p [] ys = refl
any-append p (x ∷ xs) ys =
    elim (p x) as (λ b. (b || list_any p (xs ++ ys)) ≡ ((b || list_any p xs) || list_any p ys)) [
      | true ↦ refl
      | false ↦ any-append p xs ys
    ]

and-false : (b : Bool) → (b && false) ≡ false
and-false true = refl
and-false false = refl

or-false : (b : Bool) → (b || false) ≡ b
or-false true = refl
or-false false = refl

low-is : (n x : ℕ) → n < 32 → (nat_lt x 32 && n == x) ≡ (n == x)
low-is n x l = elim (cases_eq n x) [
  | inl e ↦ let t : nat_lt x 32 ≡ true = lt-ltb x 32 (omega (arith, e, l)) in rw t refl
  | inr ne ↦ rw (ne_eqb n x ne) (and-false (nat_lt x 32))
]

-- one member more
has-more : (mask new : CpuMask) (member n : ℕ) (done : List ℕ) → member ≡ n → n < 32
    → ((x : ℕ) → has mask x ≡ list_any (λ k. k == x) done)
    → ((x : ℕ) → has new x ≡ (has mask x || (nat_lt x 32 && member == x)))
    → (x : ℕ) → has new x ≡ list_any (λ k. k == x) (done ++ (n ∷ []))
has-more mask new member n done e l h s x =
    s x ∙ ap (λ m. has mask x || (nat_lt x 32 && m == x)) e
    ∙ ap (λ b. has mask x || b) (low-is n x l)
    ∙ ap (λ b. b || (n == x)) (h x) ∙ ap (λ b. list_any (λ k. k == x) done || b)
    (sym (or-false (n == x)))
    ∙ sym (any-append (λ k. k == x) done (n ∷ []))

front-is : (x y : ℕ) (xs ys : List ℕ) → x ∷ xs ≡ y ∷ ys → x ≡ y
front-is x y xs ys e = cc

rear-is : (x y : ℕ) (xs ys : List ℕ) → x ∷ xs ≡ y ∷ ys → xs ≡ ys
rear-is x y xs ys e = cc

append-one : (done : List ℕ) (x : ℕ) (left : List ℕ) → (done ++ (x ∷ [])) ++ left ≡ done ++
    (x ∷ left)
append-one [] x left = refl
append-one (y ∷ done) x left = ap (λ l. y ∷ l) (append-one done x left)

module _ (field : List ℕ) (k : ℕ) (mask : CpuMask) (member : ℕ) (ns : List ℕ)
    (a : At field k mask member ns) where
  this-digits : AreDigits (a.read ++ a.left)
  this-digits = subst AreDigits a.digits (decimal-AreDigits a.this)

  whole : a.left ≡ [] → member ≡ a.this
  whole e =
      a.member_is ∙ ap (value 0) (sym (append-nil a.read) ∙ ap (λ l. a.read ++ l) (sym e)
      ∙ sym a.digits)
      ∙ value-decimal a.this (let l = a.low in omega (arith, l))

  module _ (l : k < length field) (byte : ℕ) (is : get_or field k 0 ≡ byte) where
    here : byte ∷ drop (k + 1) field ≡ a.left ++ with_commas a.more
    here = ap (λ b. b ∷ drop (k + 1) field) (sym is) ∙ sym (drop_more field k 0 l) ∙ a.text

    comma-by : (left more : List ℕ) → AreDigits left → AreLow more → a.left ≡ left → a.more ≡ more
        → byte ∷ drop (k + 1) field ≡ left ++ with_commas more → byte ≡ 44
        → (new : CpuMask) (next : ℕ)
        → ((x : ℕ) → has new x ≡ (has mask x || (nat_lt x 32 && member == x))) → next ≡ 0
        → At field (k + 1) new next ns
    comma-by [] [] d m e f h c new next s z = absurd (let w : byte ∷ drop (k + 1) field ≡ [] = h in
        cc)
    comma-by [] (n ∷ more) d m e f h c new next s z = record {
      done = a.done ++ (a.this ∷ []);
      this = n;
      more = more;
      read = [];
      left = decimal n;
      joins = append-one a.done a.this (n ∷ more) ∙ ap (λ q. a.done ++ (a.this ∷ q)) (sym f)
          ∙ a.joins;
      low = m.0;
      lows = m.1;
      digits = refl;
      text = rear-is byte 44 (drop (k + 1) field) (decimal n ++ with_commas more) h;
      member_is = z;
      has_done = has-more mask new member a.this a.done (whole e) a.low a.has_done s;
    }
    comma-by (b ∷ left) more d m e f h c new next s z =
        absurd (let w : byte ≡ b = front-is byte b _ _ h in omega (arith, w, c, d.0))

    digit-by : (left more : List ℕ) → AreDigits left → a.left ≡ left → a.more ≡ more
        → byte ∷ drop (k + 1) field ≡ left ++ with_commas more → byte ≢ 44
        → (new : CpuMask) (next : ℕ)
        → new ≡ mask → (member < 10 → 48 ≤ byte → byte ≤ 57 → next ≡ member * 10 + (byte - 48))
        → At field (k + 1) new next ns
    digit-by [] [] d e f h c new next s z = absurd (let w : byte ∷ drop (k + 1) field ≡ [] = h in
        cc)
    digit-by [] (n ∷ more) d e f h c new next s z =
        absurd (c (front-is byte 44 (drop (k + 1) field) (decimal n ++ with_commas more) h))
    digit-by (b ∷ left) more d e f h c new next s z =
        let w : byte ≡ b = front-is byte b _ _ h in
        let long : length (decimal a.this) ≤ 2 =
        (let low = a.low in length-decimal-le 2 a.this (omega arith) (omega (arith, low))
        (omega (arith, low))) in
        let parts = ap length a.digits ∙ length-append a.read a.left in
        let rest = ap length e in
        let few : length a.read ≤ 1 = omega (arith, long, parts, rest) in
        let small : member < 10 = (let v = one-digit a.read (digits-left a.read a.left this-digits)
        few in let m = a.member_is in omega (arith, v, m)) in
        let next-is : next ≡ member * 10 + (byte - 48) = z small (omega (arith, w, d.0))
        (omega (arith, w, d.1)) in
        record {
          done = a.done;
          this = a.this;
          more = a.more;
          read = a.read ++ (b ∷ []);
          left = left;
          joins = a.joins;
          low = a.low;
          lows = a.lows;
          digits = a.digits ∙ ap (λ q. a.read ++ q) e ∙ sym (append-one a.read b left);
          text = rear-is byte b _ _ h ∙ ap (λ q. left ++ with_commas q) (sym f);
          member_is =
              next-is ∙ ap (λ q. member * 10 + (q - 48)) w ∙ ap (λ q. q * 10 + (b - 48)) a.member_is
              ∙ sym (value-append 0 a.read (b ∷ []));
          has_done = subst (λ q. (x : ℕ) → has q x ≡ list_any (λ n. n == x) a.done) (sym s)
              a.has_done;
        }

    pub members-step : (new : CpuMask) (next : ℕ)
        → (byte ≡ 44 → (x : ℕ) → has new x ≡ (has mask x || (nat_lt x 32 && member == x)))
        → (byte ≡ 44 → next ≡ 0)
        → (byte ≢ 44 → new ≡ mask) → (byte ≢ 44 → member < 10 → 48 ≤ byte → byte ≤ 57
        → next ≡ member * 10 + (byte - 48))
        → At field (k + 1) new next ns
    members-step new next s z t u = elim (cases_eq byte 44) [
      | inl c ↦ comma-by a.left a.more (digits-right a.read a.left this-digits) a.lows refl refl
          here c new next (s c) (z c)
      | inr c ↦ digit-by a.left a.more (digits-right a.read a.left this-digits) refl refl here c new
          next (t c) (u c)
    ]

  end-by : (left more : List ℕ) → a.left ≡ left → a.more ≡ more → drop k field ≡ left ++ with_commas
      more → drop k field ≡ []
      → (a.left ≡ []) × (a.more ≡ [])
  end-by [] [] e f t z = (e, f)
  end-by [] (n ∷ more) e f t z = absurd (let w : [] ≡ 44 ∷ (decimal n ++ with_commas more) = sym z
      ∙ t in cc)
  end-by (b ∷ left) more e f t z = absurd (let w : [] ≡ b ∷ (left ++ with_commas more) = sym z
      ∙ t in cc)

  pub members-end : length field ≤ k → (new : CpuMask)
      → ((x : ℕ) → has new x ≡ (has mask x || (nat_lt x 32 && member == x)))
      → (x : ℕ) → has new x ≡ list_any (λ n. n == x) ns
  members-end l new s x =
      let z = end-by a.left a.more refl refl a.text (drop_of_length-le field l) in
      has-more mask new member a.this a.done (whole z.0) a.low a.has_done s x
      ∙ ap (list_any (λ n. n == x)) (ap (λ q. a.done ++ (a.this ∷ q)) (sym z.1) ∙ a.joins)

-- the empty mask
pub has-none : (x : ℕ) → has (record { 0 = 0 }) x ≡ false
has-none x = ap (λ b. nat_lt x 32 && b == 1) (bit_at-zero x) ∙ and-false (nat_lt x 32)

pub members-start : (field ns : List ℕ) → AreLow ns → field ≡ set_field ns → (field ≡ codes "-" → ⊥)
    → At field 0 (record { 0 = 0 }) 0 ns
members-start field [] low e no' = absurd (no' e)
members-start field (n ∷ ns) low e no' = record {
  done = [];
  this = n;
  more = ns;
  read = [];
  left = decimal n;
  joins = refl;
  low = low.0;
  lows = low.1;
  digits = refl;
  text = e;
  member_is = refl;
  has_done = has-none;
}

first-dash : (ds t : List ℕ) → AreDigits ds → 0 < length ds → ds ++ t ≡ codes "-" → ⊥
first-dash [] t a l e = omega (arith, l)
first-dash (d ∷ ds) t a l e = let w : d ≡ 45 = front-is d 45 (ds ++ t) [] e in omega (arith, w, a.0)

pub members-none : (field ns : List ℕ) → AreLow ns → field ≡ set_field ns → field ≡ codes "-"
    → (x : ℕ) → has (record { 0 = 0 }) x ≡ list_any (λ n. n == x) ns
members-none field [] low e d x = has-none x
members-none field (n ∷ ns) low e d x =
    absurd (first-dash (decimal n) (with_commas ns) (decimal-AreDigits n)
    (decimal_nonempty n (let l = low.0 in omega (arith, l))) (sym e ∙ d))

-- The members of a mask determine it.
any-other : (b : Bool) (i x : ℕ) (xs : List ℕ) → i ≢ x → list_any (λ k. k == x) (cond b (i ∷ xs) xs)
    ≡ list_any (λ k. k == x) xs
any-other true i x xs ne = rw (ne_eqb i x ne) refl
any-other false i x xs ne = refl

any-past : (p : ℕ → Bool) (x i n : ℕ) → x < i
    → list_any (λ k. k == x) (filter p (range_with_len i n)) ≡ false
any-past p x i zero l = refl
any-past p x i (suc n) l =
    any-other (p i) i x (filter p (range_with_len (i + 1) n)) (λ e. omega (arith, e, l))
    ∙ any-past p x (i + 1) n (omega (arith, l))

any-here : (b : Bool) (x : ℕ) (xs : List ℕ) → list_any (λ k. k == x) xs ≡ false
    → list_any (λ k. k == x) (cond b (x ∷ xs) xs) ≡ b
any-here true x xs h = rw (eq-eqb x x refl) refl
any-here false x xs h = h

any-kept : (p : ℕ → Bool) (x i n : ℕ) → i ≤ x → x < i + n
    → list_any (λ k. k == x) (filter p (range_with_len i n)) ≡ p x
any-kept p x i zero a b = absurd (omega (arith, a, b))
any-kept p x i (suc n) a b = elim (cases_eq i x) [
  | inl e ↦
      subst (λ y. list_any (λ k. k == x) (cond (p y) (y ∷ filter p (range_with_len (i + 1) n))
      (filter p (range_with_len (i + 1) n))) ≡ p x) (sym e)
      (any-here (p x) x (filter p (range_with_len (i + 1) n))
      (any-past p x (i + 1) n (omega (arith, e))))
  | inr ne ↦
      any-other (p i) i x (filter p (range_with_len (i + 1) n)) ne
      ∙ any-kept p x (i + 1) n (omega (arith, a, ne)) (omega (arith, b))
]

bit-same : (m n : ℕ) → m < 2 → n < 2 → (m == 1) ≡ (n == 1) → m ≡ n
bit-same zero zero a b e = refl
bit-same zero (suc zero) a b e = absurd (cc)
bit-same (suc zero) zero a b e = absurd (cc)
bit-same (suc zero) (suc zero) a b e = refl
bit-same (suc (suc m)) n a b e = absurd (omega (arith, a))
bit-same m (suc (suc n)) a b e = absurd (omega (arith, b))

in_bits-bit : (w bits n : ℕ) → n < w → in_bits w bits n ≡ (bit_at bits n == 1)
in_bits-bit w bits n l = let t : nat_lt n w ≡ true = lt-ltb n w l in rw t refl

pub bits-are : (w r m : ℕ) → w ≤ 32 → r < 2 ^ w → m < 2 ^ w
    → ((x : ℕ) → x < w → (bit_at r x == 1) ≡ list_any (λ k. k == x) (those_below w (in_bits w m)))
    → r ≡ m
unfolding those_below
bits-are w r m s a b h =
    same_from_bits_below w r m a b (λ i l.
    bit-same (bit_at r i) (bit_at m i) (bit_at-lt r i) (bit_at-lt m i)
    (h i l ∙ any-kept (in_bits w m) i 0 w (omega arith) (omega (arith, l)) ∙ in_bits-bit w m i l))

filter-low : (p : ℕ → Bool) (i n : ℕ) → i + n ≤ 32 → AreLow (filter p (range_with_len i n))
filter-low p i zero h = tt
filter-low p i (suc n) h = low-cond (p i) i (filter p (range_with_len (i + 1) n)) (omega (arith, h))
    (filter-low p (i + 1) n (omega (arith, h)))
  where
    low-cond : (b : Bool) (x : ℕ) (xs : List ℕ) → x < 32 → AreLow xs → AreLow (cond b (x ∷ xs) xs)
    low-cond true x xs a l = (a, l)
    low-cond false x xs a l = l

pub those-low : (w : ℕ) (p : ℕ → Bool) → w ≤ 32 → AreLow (those_below w p)
unfolding those_below
those-low w p s = filter-low p 0 w (omega (arith, s))

-- a mask by the text of its members
pub mask-is : (r m : CpuMask) (field : List ℕ) → r.0 < 2 ^ 32 → m.0 < 2 ^ 32 → field ≡ cpus_field m
    → ((ns : List ℕ) → AreLow ns → field ≡ set_field ns → (x : ℕ) → has r x ≡ list_any (λ n. n == x)
    ns) → r ≡ m
mask-is r m field a b e h =
    let f : r.0 ≡ m.0 = bits-are 32 r.0 m.0 (omega arith) a b (λ x l.
    sym (in_bits-bit 32 r.0 x l)
    ∙ h (those_below 32 (has m)) (those-low 32 (has m) (omega arith)) e x) in
    λ i. record { 0 = f i }

min-one : (n : ℕ) → n < 2 → min n 1 ≡ n
min-one n l = omega (arith, l)

-- a set of queues by the text of its members
pub queues-are : (r : CpuMask) (m : ℕ) (field : List ℕ) → bit_and r.0 65535 < 2 ^ 16 → m < 2 ^ 16
    → field ≡ queues_field m
    → ((ns : List ℕ) → AreLow ns → field ≡ set_field ns → (x : ℕ) → has r x ≡ list_any (λ n. n == x)
    ns) → bit_and r.0 65535 ≡ m
queues-are r m field a b e h =
    bits-are 16 (bit_and r.0 65535) m (omega arith) a b (λ x l.
    ap (λ n. n == 1) (bit_at_and r.0 65535 x ∙ ap (λ n. min (bit_at r.0 x) n) (bit_at_ones 16 x l)
    ∙ min-one (bit_at r.0 x) (bit_at-lt r.0 x))
    ∙ sym (in_bits-bit 32 r.0 x (omega (arith, l)))
    ∙ h (those_below 16 (has_queue m)) (those-low 16 (has_queue m) (omega arith)) e x)

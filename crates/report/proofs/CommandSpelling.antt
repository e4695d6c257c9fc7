-- One spelling: the fields of a command and of its answer determine them.
use Rattle.std.proofs.Common.{◌≡◌, ◌≢◌, ℕ, zero, suc, ◌<◌, ◌^◌, ◌≤◌, ◌+◌, ◌*◌, Bool, true, false}
use Rattle.std.proofs.Common.{cond, List, [], ◌∷◌, ◌++◌, length, refl, sym, ap, ◌∙◌, arith, decimal}
use Rattle.std.proofs.Common.{inl, inr}
use Rattle.std.specs.Prelude.{codes, ⊤, ◌==◌, nat_lt}
use Rattle.std.specs.List.{filter, range_with_len}
use Rattle.std.specs.Int.{bit_at}
use Rattle.std.proofs.lemmas.Bool.{cases_Bool, eq-eqb, eqb-true, lt-ltb}
use Rattle.std.proofs.lemmas.Fmt.{decimal_nonempty}
use Rattle.std.proofs.lemmas.Nat.Bits.{same_from_bits_below, bit_at-lt}
use Rattle.steer_base.specs.Sets.{in_bits, those_below}
use Rattle.steer_base.specs.declared.command.Command.{Command}
use Rattle.steer_base.specs.declared.command.Command.TheVariants as command
use Rattle.steer_base.specs.declared.command.Answer.{Answer}
use Rattle.steer_base.specs.declared.command.Answer.TheVariants as answer
use Rattle.steer_base.specs.declared.command.Busy.{Busy}
use Rattle.steer_base.specs.declared.command.Busy.TheVariants.{Inside, NotEmpty}
use Rattle.steer_base.specs.declared.command.User.{User}
use Rattle.steer_base.specs.declared.command.User.TheVariants.{Queue, App}
use Rattle.steer_base.specs.declared.cpu_mask.CpuMask.{CpuMask}
use Rattle.steer_base.specs.declared.idle.Idle.{Idle}
use Rattle.steer_base.specs.declared.idle.Idle.TheVariants.{AlreadyOnline}
use Rattle.history.specs.Ranges.{CommandFits, AnswerFits}
use Rattle.history.specs.Regular.{has_text, is_online}
use Rattle.report.specs.Commands.{with_commas, set_field, cpus_field, queues_field, command_fields}
use Rattle.report.specs.Commands.{answer_fields, busy_fields, user_fields}
use Rattle.report.proofs.Cuts.{front, rear}
use Rattle.report.proofs.Digits.{AreDigits, decimal-AreDigits}
use Rattle.report.proofs.Spelling.{field, after, number-same, byte-same}

-- nothing, or a comma first
abbrev Comma : List ℕ → Type 0
Comma [] = ⊤
Comma (x ∷ xs) = x ≡ 44

commas : (ns : List ℕ) → Comma (with_commas ns)
commas [] = tt
commas (n ∷ ns) = refl

-- the digits before a comma, and what stands from it on
cut_comma : (f g r s : List ℕ) → AreDigits f → AreDigits g → Comma r → Comma s → f ++ r ≡ g ++ s
    → (f ≡ g) × (r ≡ s)
cut_comma [] [] r s a b c d e = (refl, e)
cut_comma [] (y ∷ g) [] s a b c d e = absurd (cc)
cut_comma [] (y ∷ g) (x ∷ r) s a b c d e =
    let h : x ≡ y = ap (front 0) e in absurd (omega (arith, h, b.0, c))
cut_comma (x ∷ f) [] r [] a b c d e = absurd (cc)
cut_comma (x ∷ f) [] r (y ∷ s) a b c d e =
    let h : x ≡ y = ap (front 0) e in absurd (omega (arith, h, a.0, d))
cut_comma (x ∷ f) (y ∷ g) r s a b c d e = let rest = cut_comma f g r s a.2 b.2 c d (ap rear e) in
    ((λ i. ap (front 0) e i ∷ rest.0 i), rest.1)

-- numbers of 32 bits
abbrev AreSmall : List ℕ → Type 0
AreSmall [] = ⊤
AreSmall (n ∷ ns) = (n < 2 ^ 32) × AreSmall ns

first-same : (m n : ℕ) (r s : List ℕ) → m < 2 ^ 32 → n < 2 ^ 32 → Comma r → Comma s → decimal m
    ++ r ≡ decimal n ++ s → (m ≡ n) × (r ≡ s)
first-same m n r s a b c d e =
    let both = cut_comma (decimal m) (decimal n) r s (decimal-AreDigits m)
    (decimal-AreDigits n) c d e in
    (number-same m n a b both.0, both.1)

commas-same : (ms ns : List ℕ) → AreSmall ms → AreSmall ns → with_commas ms ≡ with_commas ns
    → ms ≡ ns
commas-same [] [] a b e = refl
commas-same [] (n ∷ ns) a b e = absurd (cc)
commas-same (m ∷ ms) [] a b e = absurd (cc)
commas-same (m ∷ ms) (n ∷ ns) a b e =
    let both = first-same m n (with_commas ms) (with_commas ns) a.0 b.0 (commas ms) (commas ns)
    (ap rear e) in
    let rest = commas-same ms ns a.1 b.1 both.1 in
    λ i. both.0 i ∷ rest i

first_dash : (ds : List ℕ) → AreDigits ds → 0 < length ds → (t : List ℕ) → ds ++ t ≡ codes "-" → ⊥
first_dash [] h l t e = omega (arith, l)
first_dash (d ∷ ds) h l t e = let f : d ≡ 45 = ap (front 0) e in omega (arith, f, h.0)

no_dash : (n : ℕ) (t : List ℕ) → n < 2 ^ 32 → decimal n ++ t ≡ codes "-" → ⊥
no_dash n t h e = first_dash (decimal n) (decimal-AreDigits n)
    (decimal_nonempty n (omega (arith, h))) t e

set-same : (ms ns : List ℕ) → AreSmall ms → AreSmall ns → set_field ms ≡ set_field ns → ms ≡ ns
set-same [] [] a b e = refl
set-same [] (n ∷ ns) a b e = absurd (no_dash n (with_commas ns) b.0 (sym e))
set-same (m ∷ ms) [] a b e = absurd (no_dash m (with_commas ms) a.0 e)
set-same (m ∷ ms) (n ∷ ns) a b e =
    let both = first-same m n (with_commas ms) (with_commas ns) a.0 b.0 (commas ms) (commas ns) e in
    let rest = commas-same ms ns a.1 b.1 both.1 in
    λ i. both.0 i ∷ rest i

-- those of the numbers from i on that pass a test
abbrev kept : Bool → ℕ → List ℕ → List ℕ
kept b x xs = cond b (x ∷ xs) xs

kept-small : (b : Bool) (x : ℕ) (xs : List ℕ) → x < 2 ^ 32 → AreSmall xs → AreSmall (kept b x xs)
kept-small true x xs a h = (a, h)
kept-small false x xs a h = h

filter-small : (p : ℕ → Bool) (i n : ℕ) → i + n ≤ 2 ^ 32 → AreSmall (filter p (range_with_len i n))
filter-small p i zero h = tt
filter-small p i (suc n) h = kept-small (p i) i (filter p (range_with_len (i + 1) n))
    (omega (arith, h)) (filter-small p (i + 1) n (omega (arith, h)))

abbrev AreFrom : ℕ → List ℕ → Type 0
AreFrom i [] = ⊤
AreFrom i (x ∷ xs) = (i ≤ x) × AreFrom i xs

kept-from : (b : Bool) (i x : ℕ) (xs : List ℕ) → i ≤ x → AreFrom i xs → AreFrom i (kept b x xs)
kept-from true i x xs a h = (a, h)
kept-from false i x xs a h = h

from-weaker : (i j : ℕ) (xs : List ℕ) → i ≤ j → AreFrom j xs → AreFrom i xs
from-weaker i j [] l h = tt
from-weaker i j (x ∷ xs) l h = (omega (arith, l, h.0), from-weaker i j xs l h.1)

filter-from : (p : ℕ → Bool) (i n : ℕ) → AreFrom i (filter p (range_with_len i n))
filter-from p i zero = tt
filter-from p i (suc n) =
    let rest = filter p (range_with_len (i + 1) n) in
    kept-from (p i) i i rest (omega arith) (from-weaker i (i + 1) rest (omega arith)
    (filter-from p (i + 1) n))

kept-same : (a b : Bool) (i : ℕ) (xs ys : List ℕ) → AreFrom (i + 1) xs → AreFrom (i + 1) ys
    → kept a i xs ≡ kept b i ys → (a ≡ b) × (xs ≡ ys)
kept-same true true i xs ys f g e = (refl, ap rear e)
kept-same false false i xs ys f g e = (refl, e)
kept-same true false i xs [] f g e = absurd (cc)
kept-same true false i xs (y ∷ ys) f g e =
    let h : i ≡ y = ap (front 0) e in absurd (omega (arith, h, g.0))
kept-same false true i [] ys f g e = absurd (cc)
kept-same false true i (x ∷ xs) ys f g e =
    let h : x ≡ i = ap (front 0) e in absurd (omega (arith, h, f.0))

-- equal lists of those that pass come of tests with the same answers
tests-same : (p q : ℕ → Bool) (i n : ℕ) → filter p (range_with_len i n) ≡ filter q
    (range_with_len i n) → (x : ℕ) → i ≤ x → x < i + n → p x ≡ q x
tests-same p q i zero e x a b = absurd (omega (arith, a, b))
tests-same p q i (suc n) e x a b =
    let one = filter p (range_with_len (i + 1) n) in
    let two = filter q (range_with_len (i + 1) n) in
    let both = kept-same (p i) (q i) i one two (filter-from p (i + 1) n)
    (filter-from q (i + 1) n) e in
    elim (cases_Bool (x == i)) [
      | inl t ↦ let f : x ≡ i = eqb-true x i t in rw f both.0
      | inr t ↦ let ne : x ≢ i = (λ f. let g : (x == i) ≡ true = eq-eqb x i f in cc) in
          tests-same p q (i + 1) n both.1 x (omega (arith, a, ne)) (omega (arith, b))
    ]

bit-same : (m n : ℕ) → m < 2 → n < 2 → (m == 1) ≡ (n == 1) → m ≡ n
bit-same zero zero a b e = refl
bit-same zero (suc zero) a b e = absurd (cc)
bit-same (suc zero) zero a b e = absurd (cc)
bit-same (suc zero) (suc zero) a b e = refl
bit-same (suc (suc m)) n a b e = absurd (omega (arith, a))
bit-same m (suc (suc n)) a b e = absurd (omega (arith, b))

in_bits-bit : (w bits n : ℕ) → n < w → in_bits w bits n ≡ (bit_at bits n == 1)
in_bits-bit w bits n l = let t : nat_lt n w ≡ true = lt-ltb n w l in rw t refl

-- bits below a width, by the text of their set
bits-same : (w m n : ℕ) → w ≤ 32 → m < 2 ^ w → n < 2 ^ w → set_field
    (those_below w (in_bits w m)) ≡ set_field (those_below w (in_bits w n)) → m ≡ n
unfolding those_below
bits-same w m n s a b e =
    let lists = set-same (filter (in_bits w m) (range_with_len 0 w))
    (filter (in_bits w n) (range_with_len 0 w))
    (filter-small (in_bits w m) 0 w (omega (arith, s))) (filter-small (in_bits w n) 0 w
    (omega (arith, s))) e in
    same_from_bits_below w m n a b (λ i l.
    bit-same (bit_at m i) (bit_at n i) (bit_at-lt m i) (bit_at-lt n i)
    (sym (in_bits-bit w m i l) ∙ tests-same (in_bits w m) (in_bits w n) 0 w lists i (omega arith)
    (omega (arith, l)) ∙ in_bits-bit w n i l))

mask-same : (m n : CpuMask) → m.0 < 2 ^ 32 → n.0 < 2 ^ 32 → cpus_field m ≡ cpus_field n → m ≡ n
mask-same m n a b e = let f : m.0 ≡ n.0 = bits-same 32 m.0 n.0 (omega arith) a b e in
    λ i. record { 0 = f i }

queues-same : (m n : ℕ) → m < 2 ^ 16 → n < 2 ^ 16 → queues_field m ≡ queues_field n → m ≡ n
queues-same m n a b e = bits-same 16 m n (omega arith) a b e

-- a word as one number, to tell words apart
abbrev tag : List ℕ → ℕ
tag [] = 0
tag (x ∷ xs) = x + 256 * tag xs

apart : (m n : ℕ) → m ≡ n → (m == n) ≡ false → ⊥
apart m n e h = let f : (m == n) ≡ true = eq-eqb m n e in cc

-- a command before other fields
pub command-same : (c d : Command) (r s : List (List ℕ)) → CommandFits c → CommandFits d
    → command_fields c ++ r ≡ command_fields d ++ s → (c ≡ d) × (r ≡ s)
command-same (command.Mask q m) (command.Mask p n) r s a b e =
    let f : q ≡ p = byte-same q p a.0 b.0 (ap (field 1) e) in
    let g : m ≡ n = mask-same m n a.1 b.1 (ap (field 2) e) in
    ((λ i. command.Mask (f i) (g i)), ap (after 3) e)
command-same (command.Flows q m) (command.Flows p n) r s a b e =
    let f : q ≡ p = byte-same q p a.0 b.0 (ap (field 1) e) in
    let g : m ≡ n = number-same m n a.1 b.1 (ap (field 2) e) in
    ((λ i. command.Flows (f i) (g i)), ap (after 3) e)
command-same (command.Sock m) (command.Sock n) r s a b e =
    let g : m ≡ n = number-same m n a b (ap (field 1) e) in
    ((λ i. command.Sock (g i)), ap (after 2) e)
command-same (command.Offline m) (command.Offline n) r s a b e =
    let g : m ≡ n = byte-same m n a b (ap (field 1) e) in
    ((λ i. command.Offline (g i)), ap (after 2) e)
command-same (command.Online m) (command.Online n) r s a b e =
    let g : m ≡ n = byte-same m n a b (ap (field 1) e) in
    ((λ i. command.Online (g i)), ap (after 2) e)
command-same (command.XCpus q m) (command.XCpus p n) r s a b e =
    let f : q ≡ p = byte-same q p a.0 b.0 (ap (field 1) e) in
    let g : m ≡ n = mask-same m n a.1 b.1 (ap (field 2) e) in
    ((λ i. command.XCpus (f i) (g i)), ap (after 3) e)
command-same (command.XQueues q m) (command.XQueues p n) r s a b e =
    let f : q ≡ p = byte-same q p a.0 b.0 (ap (field 1) e) in
    let g : m ≡ n = queues-same m n a.1 b.1 (ap (field 2) e) in
    ((λ i. command.XQueues (f i) (g i)), ap (after 3) e)
command-same (command.Reta q m) (command.Reta p n) r s a b e =
    let f : q ≡ p = byte-same q p a.0 b.0 (ap (field 1) e) in
    let g : m ≡ n = byte-same m n a.1 b.1 (ap (field 2) e) in
    ((λ i. command.Reta (f i) (g i)), ap (after 3) e)
command-same (command.Stand q m) (command.Stand p n) r s a b e =
    let f : q ≡ p = byte-same q p a.0 b.0 (ap (field 1) e) in
    let g : m ≡ n = byte-same m n a.1 b.1 (ap (field 2) e) in
    ((λ i. command.Stand (f i) (g i)), ap (after 3) e)
command-same command.Expire command.Expire r s a b e = (refl, ap (after 1) e)
command-same c d r s a b e =
    absurd (apart (tag (field 0 (command_fields c))) (tag (field 0 (command_fields d)))
    (ap (λ x. tag (field 0 x)) e) refl)

busy-same : (x y : Busy) → AnswerFits (answer.Busy x) → AnswerFits (answer.Busy y)
    → busy_fields x ≡ busy_fields y → x ≡ y
busy-same (Inside m) (Inside n) a b e = let g : m ≡ n = number-same m n a b (ap (field 1) e) in
    λ i. Inside (g i)
busy-same (NotEmpty l h k) (NotEmpty m p q) a b e =
    let f : l ≡ m = byte-same l m a.0 b.0 (ap (field 1) e) in
    let g : h ≡ p = number-same h p a.1 b.1 (ap (field 3) e) in
    let j : k ≡ q = number-same k q a.2 b.2 (ap (field 5) e) in λ i. NotEmpty (f i) (g i) (j i)
busy-same x y a b e = absurd (apart (tag (field 0 (busy_fields x))) (tag (field 0 (busy_fields y)))
    (ap (λ x. tag (field 0 x)) e) refl)

online : (i : Idle) → is_online i ≡ true → i ≡ AlreadyOnline
online AlreadyOnline t = refl
online i t = absurd (cc)

user-same : (x y : User) → AnswerFits (answer.CpuInUse x) → AnswerFits (answer.CpuInUse y)
    → user_fields x ≡ user_fields y → x ≡ y
user-same (Queue m) (Queue n) a b e = let g : m ≡ n = byte-same m n a b (ap (field 1) e) in
    λ i. Queue (g i)
user-same (App m) (App n) a b e = let g : m ≡ n = byte-same m n a b (ap (field 1) e) in λ i. App
    (g i)
user-same x y a b e = absurd (apart (tag (field 0 (user_fields x))) (tag (field 0 (user_fields y)))
    (ap (λ x. tag (field 0 x)) e) refl)

-- an answer with a text
pub answer-same : (c d : Answer) → has_text c ≡ true → has_text d ≡ true → AnswerFits c
    → AnswerFits d → answer_fields c ≡ answer_fields d → c ≡ d
answer-same answer.Done answer.Done t u a b e = refl
answer-same (answer.Idle i) (answer.Idle j) t u a b e =
    ap (λ z. answer.Idle z) (online i t ∙ sym (online j u))
answer-same (answer.Busy x) (answer.Busy y) t u a b e =
    ap (λ z. answer.Busy z) (busy-same x y a b (ap (after 1) e))
answer-same (answer.CpuInUse x) (answer.CpuInUse y) t u a b e = ap (λ z. answer.CpuInUse z)
    (user-same x y a b (ap (after 2) e))
answer-same answer.CpuOffline answer.CpuOffline t u a b e = refl
answer-same (answer.Expired m) (answer.Expired n) t u a b e =
    let g : m ≡ n = number-same m n a b (ap (field 1) e) in λ i. answer.Expired (g i)
answer-same c d t u a b e =
    absurd (apart (tag (field 0 (answer_fields c))) (tag (field 0 (answer_fields d)))
    (ap (λ x. tag (field 0 x)) e) refl)

-- The fields of a block, as they are written and as they are read.
use Rattle.std.proofs.Common.{◌≡◌, ◌≤◌, ◌<◌, inl, inr, ℕ, ◌+◌, ◌^◌, Bool, true, false, List, []}
use Rattle.std.proofs.Common.{◌∷◌, ◌++◌, length, take, drop, All, slice_index, append_assoc}
use Rattle.std.proofs.Common.{length-drop, sym, ap, ◌∙◌, arith}
use Rattle.std.proofs.lemmas.Bool.{cases_order}
use Rattle.std.proofs.lemmas.List.{drop-drop, drop_at, get_or_past}
use Rattle.std.proofs.lemmas.List.Elements.{All-drop}
use Rattle.byteorder.specs.Numbers.{big_number-reads_back, little_number-reads_back}
use Rattle.byteorder.specs.Numbers.{length-bytes_high_first, length-bytes_low_first}
use Rattle.byteorder.specs.Numbers.{big_from-append, big_from-lt, little_from-append}
use Rattle.byteorder.specs.Numbers.{little_from-lt}
use Rattle.pcap_reader.specs.Numbers.{number_of}
use Rattle.pcapng_reader.specs.Numbers.{u16_at, u32_at}
use Rattle.pcapng_reader.specs.Format.{field}
use Rattle.pcapng_reader.proofs.Pieces.{next_piece}

pub reads_field : (big : Bool) (n x : ℕ) (more : List ℕ) → x < 256 ^ n
    → number_of big n (field big n x ++ more) ≡ x
reads_field true n x more fits = big_number-reads_back n x more fits
reads_field false n x more fits = little_number-reads_back n x more fits

pub length-field : (big : Bool) (n x : ℕ) → length (field big n x) ≡ n
length-field true n x = length-bytes_high_first n x
length-field false n x = length-bytes_low_first 0 n x

-- a number is in its first bytes
pub number_of-append : (big : Bool) (n : ℕ) (bytes more : List ℕ) → n ≤ length bytes
    → number_of big n (bytes ++ more) ≡ number_of big n bytes
number_of-append true n bytes more h = big_from-append n bytes more h
number_of-append false n bytes more h = little_from-append n bytes more h

-- a field of four bytes behind others
pub word_at : (big : Bool) (bytes front : List ℕ) (x : ℕ) (more : List ℕ) (at : ℕ)
    → bytes ≡ front ++ (field big 4 x ++ more) → length front ≡ at → x < 2 ^ 32
    → u32_at big at bytes ≡ x
unfolding u32_at
word_at big bytes front x more at is size fits =
    ap (λ l. number_of big 4 (drop at l)) is
    ∙ ap (number_of big 4) (drop_at front (field big 4 x ++ more) at size)
    ∙ reads_field big 4 x more (omega (arith, fits))

-- a field of two bytes behind others
pub half_at : (big : Bool) (bytes front : List ℕ) (x : ℕ) (more : List ℕ) (at : ℕ)
    → bytes ≡ front ++ (field big 2 x ++ more) → length front ≡ at → x < 2 ^ 16
    → u16_at big at bytes ≡ x
unfolding u16_at
half_at big bytes front x more at is size fits =
    ap (λ l. number_of big 2 (drop at l)) is
    ∙ ap (number_of big 2) (drop_at front (field big 2 x ++ more) at size)
    ∙ reads_field big 2 x more (omega (arith, fits))

-- what is behind one more field
pub moved : (front piece more : List ℕ) → front ++ (piece ++ more) ≡ (front ++ piece) ++ more
moved front piece more = sym (append_assoc front piece more)

-- a field of four bytes is skipped, or read
pub skips : (big order : Bool) (n x : ℕ) (more : List ℕ)
    → u32_at big (4 + n) (field order 4 x ++ more) ≡ u32_at big n more
unfolding u32_at
skips big order n x more =
    ap (number_of big 4) (sym (drop-drop n 4 (field order 4 x ++ more))
    ∙ ap (drop n) (drop_at (field order 4 x) more 4 (length-field order 4 x)))

-- the type and the total length are skipped
pub skips_2 : (big : Bool) (n kind total : ℕ) (more : List ℕ)
    → u32_at big (8 + n) (field big 4 kind ++ (field big 4 total ++ more)) ≡ u32_at big n more
skips_2 big n kind total more =
    let same : 8 + n ≡ 4 + (4 + n) = omega arith in
    ap (λ m. u32_at big m (field big 4 kind ++ (field big 4 total ++ more))) same
    ∙ skips big big (4 + n) kind (field big 4 total ++ more)
    ∙ skips big big n total more

pub reads : (big : Bool) (x : ℕ) (more : List ℕ) → x < 2 ^ 32
    → u32_at big 0 (field big 4 x ++ more) ≡ x
unfolding u32_at
reads big x more fits = reads_field big 4 x more (omega (arith, fits))

-- a list of bytes
abbrev pub Bytes : List ℕ → Type 0
Bytes l = All (λ x. x < 256) l

byte_below : (l : List ℕ) → Bytes l → (k : ℕ) → slice_index l k < 256
byte_below l small k = elim (cases_order k (length l)) [
  | inl same ↦ rw (get_or_past l k 0 (omega (arith, same))) (omega arith)
  | inr (inl less) ↦ small k 0 less
  | inr (inr more) ↦ rw (get_or_past l k 0 (omega (arith, more))) (omega arith)
]

pub number_fits : (big : Bool) (n : ℕ) (l : List ℕ) → Bytes l → number_of big n l < 256 ^ n
number_fits true n l small = big_from-lt 0 n l (byte_below l small)
number_fits false n l small = little_from-lt 0 n l (byte_below l small)

-- four bytes by their values
four_are : (a b d e x y z w : ℕ) → a ≡ x → b ≡ y → d ≡ z → e ≡ w
    → a ∷ b ∷ d ∷ e ∷ [] ≡ x ∷ y ∷ z ∷ w ∷ []
four_are a b d e x y z w p q r s = cc

two_are : (a b x y : ℕ) → a ≡ x → b ≡ y → a ∷ b ∷ [] ≡ x ∷ y ∷ []
two_are a b x y p q = cc

four_bytes : (big : Bool) (a b d e : ℕ) (more : List ℕ) → a < 256 → b < 256 → d < 256 → e < 256
    → a ∷ b ∷ d ∷ e ∷ [] ≡ field big 4 (number_of big 4 (a ∷ b ∷ d ∷ e ∷ more))
four_bytes true a b d e more ha hb hd he = four_are a b d e _ _ _ _ (omega arith) (omega arith)
    (omega arith) (omega arith)
four_bytes false a b d e more ha hb hd he = four_are a b d e _ _ _ _ (omega arith) (omega arith)
    (omega arith) (omega arith)

two_bytes : (big : Bool) (a b : ℕ) (more : List ℕ) → a < 256 → b < 256
    → a ∷ b ∷ [] ≡ field big 2 (number_of big 2 (a ∷ b ∷ more))
two_bytes true a b more ha hb = two_are a b _ _ (omega arith) (omega arith)
two_bytes false a b more ha hb = two_are a b _ _ (omega arith) (omega arith)

pub word_is : (big : Bool) (l : List ℕ) → 4 ≤ length l → Bytes l
    → take 4 l ≡ field big 4 (number_of big 4 l)
word_is big [] whole small = absurd (omega arith)
word_is big (a ∷ []) whole small = absurd (omega arith)
word_is big (a ∷ b ∷ []) whole small = absurd (omega arith)
word_is big (a ∷ b ∷ d ∷ []) whole small = absurd (omega arith)
word_is big (a ∷ b ∷ d ∷ e ∷ more) whole small = four_bytes big a b d e more
    (small 0 0 (omega arith)) (small 1 0 (omega arith)) (small 2 0 (omega arith))
    (small 3 0 (omega arith))

pub half_is : (big : Bool) (l : List ℕ) → 2 ≤ length l → Bytes l
    → take 2 l ≡ field big 2 (number_of big 2 l)
half_is big [] whole small = absurd (omega arith)
half_is big (a ∷ []) whole small = absurd (omega arith)
half_is big (a ∷ b ∷ more) whole small = two_bytes big a b more
    (small 0 0 (omega arith)) (small 1 0 (omega arith))

-- the field at some place, and what is behind it
pub word_of : (big : Bool) (l : List ℕ) (at : ℕ) → at + 4 ≤ length l → Bytes l
    → drop at l ≡ field big 4 (number_of big 4 (drop at l)) ++ drop (at + 4) l
word_of big l at whole small =
    next_piece at 4 l
    ∙ ap (λ p. p ++ drop (at + 4) l)
    (word_is big (drop at l) (omega (arith, length-drop at l, whole))
    (All-drop (λ x. x < 256) at l small))

pub half_of : (big : Bool) (l : List ℕ) (at : ℕ) → at + 2 ≤ length l → Bytes l
    → drop at l ≡ field big 2 (number_of big 2 (drop at l)) ++ drop (at + 2) l
half_of big l at whole small =
    next_piece at 2 l
    ∙ ap (λ p. p ++ drop (at + 2) l)
    (half_is big (drop at l) (omega (arith, length-drop at l, whole))
    (All-drop (λ x. x < 256) at l small))

pub number_is : (big : Bool) (rest : List ℕ) (at x : ℕ) → u32_at big at rest ≡ x
    → number_of big 4 (drop at rest) ≡ x
unfolding u32_at
number_is big rest at x h = h

pub word_fits : (big : Bool) (at : ℕ) (rest : List ℕ) → Bytes rest → u32_at big at rest < 2 ^ 32
unfolding u32_at
word_fits big at rest small =
    let e = number_fits big 4 (drop at rest) (All-drop (λ x. x < 256) at rest small) in
    omega (arith, e)

pub half_fits : (big : Bool) (at : ℕ) (rest : List ℕ) → Bytes rest → u16_at big at rest < 2 ^ 16
unfolding u16_at
half_fits big at rest small =
    let e = number_fits big 2 (drop at rest) (All-drop (λ x. x < 256) at rest small) in
    omega (arith, e)

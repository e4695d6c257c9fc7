-- The pieces of a whole record, by their places.
use Rattle.std.proofs.Common.{◌≡◌, ◌≤◌, ◌<◌, ℕ, List, ◌++◌, length, take, drop, length-append}
use Rattle.std.proofs.Common.{length-take, length-drop, refl, sym, ap, ◌∙◌, arith}
use Rattle.std.proofs.Common.{inl, inr}
use Rattle.std.proofs.lemmas.Bool.Decides.{leb_tells}
use Rattle.std.proofs.lemmas.List.{take_at, drop_at, take-append-drop}
use Rattle.pcap_reader.specs.Captures.{frame_len, IsWhole, BeginsNoRecord, IsCut}

-- the header of a whole record is the first 16 bytes, and the frame comes next
pub pieces_are : (number : ℕ → List ℕ → ℕ) (rest header frame more : List ℕ) → rest ≡ header
    ++ (frame ++ more) → IsWhole number header frame
    → (take 16 rest ≡ header) × (drop 16 rest ≡ frame ++ more)
    × (length frame ≡ frame_len number (take 16 rest))
    × (frame_len number (take 16 rest) ≤ 262144)
pieces_are number rest header frame more is whole =
    let head : take 16 rest ≡ header = ap (take 16) is ∙ take_at header
    (frame ++ more) 16 whole.header_size in
    let size : length frame ≡ frame_len number (take 16 rest) = whole.frame_size
    ∙ ap (frame_len number) (sym head) in (
      head,
      ap (drop 16) is ∙ drop_at header (frame ++ more) 16 whole.header_size,
      size,
      omega
          (arith, size, whole.frame_size, whole.small),
    )

-- fewer bytes than a header has begin no record
pub short_begins_none : (number : ℕ → List ℕ → ℕ) (rest : List ℕ) → length rest < 16
    → BeginsNoRecord number rest
short_begins_none number rest short header frame more is whole =
    omega (arith, ap length is, length-append header (frame ++ more), whole.header_size)

-- nor do a header and fewer bytes than it tells
pub cut_begins_none : (number : ℕ → List ℕ → ℕ) (rest : List ℕ)
    → length (drop 16 rest) < frame_len number (take 16 rest) → BeginsNoRecord number rest
cut_begins_none number rest short header frame more is whole =
    let p = pieces_are number rest header frame more is whole in
    omega (arith, p.2, ap length p.1, length-append frame more)

-- nor does a header that tells too many
pub long_begins_none : (number : ℕ → List ℕ → ℕ) (rest : List ℕ) → 262144 < frame_len number
    (take 16 rest) → BeginsNoRecord number rest
long_begins_none number rest long header frame more is whole =
    let p = pieces_are number rest header frame more is whole in
    omega (arith, p.3)

-- a header and as many bytes as it tells are a whole record
pub whole_here : (number : ℕ → List ℕ → ℕ) (rest : List ℕ) (len : ℕ) → 16 ≤ length rest
    → len ≡ frame_len number (take 16 rest) → len ≤ 262144
    → len ≤ length (drop 16 rest) → IsWhole number (take 16 rest) (take len (drop 16 rest))
whole_here number rest len whole is small fits =
    record {
      header_size = omega (arith, length-take 16 rest);
      frame_size = omega (arith, length-take len (drop 16 rest), is);
      small = omega (arith, is);
    }

-- a record at the front, and what follows it
pub split_front : (rest : List ℕ) (len : ℕ) → rest ≡ take 16 rest ++ (take len (drop 16 rest)
    ++ drop len (drop 16 rest))
split_front rest len =
    sym (take-append-drop 16 rest) ∙ ap (λ l. take 16 rest ++ l)
    (sym (take-append-drop len (drop 16 rest)))

-- a cut record is shorter than a whole one can be
pub length_cut : (number : ℕ → List ℕ → ℕ) (rest : List ℕ) → IsCut number rest
    → length rest < 262160
length_cut number rest cut =
    elim (leb_tells 262160 (length rest)) [
      | inl much ↦
          let len = frame_len number (take 16 rest) in
          let small : len ≤ 262144 = cut.small (omega (arith, much.1)) in
          absurd (cut.no_record (take 16 rest) (take len (drop 16 rest)) (drop len (drop 16 rest))
          (split_front rest len)
          (whole_here number rest len (omega (arith, much.1)) refl small
          (omega (arith, much.1, small, length-drop 16 rest))))
      | inr few ↦ omega (arith, few.1)
    ]

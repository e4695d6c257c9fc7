-- A complete block, or a faulty one, is the same with more bytes behind it.
use Rattle.std.proofs.Common.{◌≡◌, ◌≢◌, ◌≤◌, ◌⊎◌, inl, inr, ℕ, ◌+◌, ◌-◌, Bool, true, false, ltb}
use Rattle.std.proofs.Common.{List, ◌++◌, length, drop, Option, Some, None, Ok, Err, length-drop}
use Rattle.std.proofs.Common.{length-append, refl, sym, ap, ◌∙◌, arith}
use Rattle.std.proofs.lemmas.Bool.{lt-ltb, le-ltb, cases_lt}
use Rattle.std.proofs.lemmas.Bool.Decides.{eqb_tells}
use Rattle.std.proofs.lemmas.List.{drop-append-le}
use Rattle.pcap_reader.specs.Numbers.{number_of}
use Rattle.pcapng_reader.specs.declared.section.Section.{Section}
use Rattle.pcapng_reader.specs.declared.place.Place.{Place}
use Rattle.pcapng_reader.specs.declared.block.Block.{Block}
use Rattle.pcapng_reader.specs.declared.fault.NgFault.{NgFault}
use Rattle.pcapng_reader.specs.Numbers.{u16_at, u32_at}
use Rattle.pcapng_reader.specs.Contents.{is_len, least_len, enhanced, simple}
use Rattle.pcapng_reader.specs.Contents.{content_at}
use Rattle.pcapng_reader.specs.Blocks.{kind_of, order_of, total_len, block_in, ordered}
use Rattle.pcapng_reader.specs.Blocks.{block_at}
use Rattle.pcapng_reader.proofs.Fields.{number_of-append}
use Rattle.pcapng_reader.proofs.Placed.{is_len_tells}
use Rattle.pcapng_reader.proofs.Taken.{length_tells}

-- a field within the bytes
word_more : (big : Bool) (at : ℕ) (rest more : List ℕ) → at + 4 ≤ length rest
    → u32_at big at (rest ++ more) ≡ u32_at big at rest
unfolding u32_at
word_more big at rest more whole =
    ap (number_of big 4) (drop-append-le at rest more (omega (arith, whole)))
    ∙ number_of-append big 4 (drop at rest) more (omega (arith, length-drop at rest, whole))

half_more : (big : Bool) (at : ℕ) (rest more : List ℕ) → at + 2 ≤ length rest
    → u16_at big at (rest ++ more) ≡ u16_at big at rest
unfolding u16_at
half_more big at rest more whole =
    ap (number_of big 2) (drop-append-le at rest more (omega (arith, whole)))
    ∙ number_of-append big 2 (drop at rest) more (omega (arith, length-drop at rest, whole))

order_more : (section : Section) (rest more : List ℕ) → 12 ≤ length rest
    → order_of section (rest ++ more) ≡ order_of section rest
unfolding order_of
order_more section rest more begun =
    let kind = word_more section.big 0 rest more (omega (arith, begun)) in
    let little = word_more false 8 rest more (omega (arith, begun)) in
    let large = word_more true 8 rest more (omega (arith, begun)) in
    rw (kind, little, large) refl

enhanced_more : (section : Section) (place : Place) (len : ℕ) (rest more : List ℕ)
    → 32 ≤ length rest
    → enhanced section place len (rest ++ more) ≡ enhanced section place len rest
unfolding enhanced
enhanced_more section place len rest more whole =
    let id = word_more section.big 8 rest more (omega (arith, whole)) in
    let sec = word_more section.big 12 rest more (omega (arith, whole)) in
    let frac = word_more section.big 16 rest more (omega (arith, whole)) in
    let size = word_more section.big 20 rest more (omega (arith, whole)) in
    let orig = word_more section.big 24 rest more (omega (arith, whole)) in
    rw (id, sec, frac, size, orig) refl

simple_more : (section : Section) (place : Place) (len : ℕ) (rest more : List ℕ)
    → 16 ≤ length rest
    → simple section place len (rest ++ more) ≡ simple section place len rest
unfolding simple
simple_more section place len rest more whole =
    let orig = word_more section.big 8 rest more (omega (arith, whole)) in rw orig refl

content_more : (section : Section) (place : Place) (kind : ℕ) (big : Bool) (len : ℕ)
    (rest more : List ℕ) → is_len kind len ≡ true → len ≤ length rest
    → content_at section place kind big len (rest ++ more)
    ≡ content_at section place kind big len rest
unfolding content_at
content_more section place kind big len rest more sized whole =
    let least : least_len kind ≤ len = (length_tells kind len sized).1 in
    elim (eqb_tells kind 0x0a0d0d0a) [
      | inl a ↦
          let least : 28 ≤ len = rw a.0 at least in
          let major = half_more big 12 rest more (omega (arith, least, whole)) in
          rw (a.0, major) refl
      | inr a ↦ elim (eqb_tells kind 1) [
        | inl b ↦
            let least : 20 ≤ len = rw (a.0, b.0) at least in
            let link = half_more big 8 rest more (omega (arith, least, whole)) in
            let snap = word_more big 12 rest more (omega (arith, least, whole)) in
            rw (a.0, b.0, link, snap) refl
        | inr b ↦ elim (eqb_tells kind 6) [
          | inl d ↦
              let least : 32 ≤ len = rw (a.0, b.0, d.0) at least in
              rw (a.0, b.0, d.0)
              (enhanced_more section place len rest more (omega (arith, least, whole)))
          | inr d ↦ elim (eqb_tells kind 3) [
            | inl f ↦
                let least : 16 ≤ len = rw (a.0, b.0, d.0, f.0) at least in
                rw (a.0, b.0, d.0, f.0)
                (simple_more section place len rest more (omega (arith, least, whole)))
            | inr f ↦ rw (a.0, b.0, d.0, f.0) refl
          ]
        ]
      ]
    ]

-- a test is true or false
bool_is : (t : Bool) → (t ≡ true) ⊎ (t ≡ false)
bool_is true = inl refl
bool_is false = inr refl

-- the length of a block fits its type, and the block is whole
whole_more : (section : Section) (place : Place) (big : Bool) (rest more : List ℕ)
    → 12 ≤ length rest → total_len big rest ≤ length rest
    → is_len (kind_of section rest) (total_len big rest) ≡ true
    → block_in section place big (rest ++ more) ≡ block_in section place big rest
unfolding block_in
whole_more section place big rest more begun whole sized =
    let len = total_len big rest in
    let kind = kind_of section rest in
    let least = is_len_tells kind len sized in
    let is_kind : kind_of section (rest ++ more) ≡ kind =
    word_more section.big 0 rest more (omega (arith, begun)) in
    let is_len : total_len big (rest ++ more) ≡ len =
    word_more big 4 rest more (omega (arith, begun)) in
    let is_tail : u32_at big (len - 4) (rest ++ more) ≡ u32_at big (len - 4) rest =
    word_more big (len - 4) rest more (omega (arith, least, whole)) in
    let is_content = content_more section place kind big len rest more sized whole in
    let short : ltb (length rest) len ≡ false = le-ltb (length rest) len whole in
    let longer : ltb (length (rest ++ more)) len ≡ false =
    le-ltb (length (rest ++ more)) len (omega (arith, length-append rest more, whole)) in
    rw (is_kind, is_len, is_tail, is_content, short, longer) refl

block_in_more : (section : Section) (place : Place) (big : Bool) (rest more : List ℕ)
    → 12 ≤ length rest → block_in section place big rest ≢ Ok None
    → block_in section place big (rest ++ more) ≡ block_in section place big rest
unfolding block_in
block_in_more section place big rest more begun found =
    let len = total_len big rest in
    let kind = kind_of section rest in
    let is_kind : kind_of section (rest ++ more) ≡ kind =
    word_more section.big 0 rest more (omega (arith, begun)) in
    let is_len_of : total_len big (rest ++ more) ≡ len =
    word_more big 4 rest more (omega (arith, begun)) in
    elim (bool_is (is_len kind len)) [
      | inr bad ↦ rw (is_kind, is_len_of, bad) refl
      | inl sized ↦ elim (cases_lt (length rest) len) [
        | inl few ↦
            let short : ltb (length rest) len ≡ true = lt-ltb (length rest) len few in
            absurd (found (rw (sized, short) refl))
        | inr whole ↦ whole_more section place big rest more begun whole sized
      ]
    ]

ordered_more : (section : Section) (place : Place) (rest more : List ℕ) (o : Option Bool)
    → 12 ≤ length rest → ordered section place rest o ≢ Ok None
    → ordered section place (rest ++ more) o ≡ ordered section place rest o
ordered_more section place rest more None begun found =
    let magic = word_more false 8 rest more (omega (arith, begun)) in rw magic refl
ordered_more section place rest more (Some big) begun found =
    block_in_more section place big rest more begun found

block_more : (section : Section) (place : Place) (rest more : List ℕ)
    → block_at section place rest ≢ Ok None
    → block_at section place (rest ++ more) ≡ block_at section place rest
unfolding block_at
block_more section place rest more found = elim (cases_lt (length rest) 12) [
  | inl few ↦
      let short : ltb (length rest) 12 ≡ true = lt-ltb (length rest) 12 few in
      absurd (found (rw short refl))
  | inr begun ↦
      let short : ltb (length rest) 12 ≡ false = le-ltb (length rest) 12 begun in
      let longer : ltb (length (rest ++ more)) 12 ≡ false =
      le-ltb (length (rest ++ more)) 12 (omega (arith, length-append rest more, begun)) in
      let order = order_more section rest more begun in
      rw (short, longer, order) (ordered_more section place rest more (order_of section rest) begun
      (rw short at found))
]

-- a complete block
pub found_more : (section : Section) (place : Place) (rest more : List ℕ) (b : Block)
    → block_at section place rest ≡ Ok (Some b)
    → block_at section place (rest ++ more) ≡ Ok (Some b)
found_more section place rest more b is =
    block_more section place rest more (λ none. let e = sym none ∙ is in cc) ∙ is

-- a fault
pub fault_more : (section : Section) (place : Place) (rest more : List ℕ) (e : NgFault)
    → block_at section place rest ≡ Err e → block_at section place (rest ++ more) ≡ Err e
fault_more section place rest more e is =
    block_more section place rest more (λ none. let e = sym none ∙ is in cc) ∙ is

-- The pieces of a whole block.
use Rattle.std.proofs.Common.{◌≡◌, ◌≤◌, inl, inr, ℕ, ◌+◌, ◌-◌, ◌%◌, Bool, true, false, not, ltb}
use Rattle.std.proofs.Common.{eqb, List, ◌++◌, length, take, drop, Option, Some, None, Ok}
use Rattle.std.proofs.Common.{length-take, length-drop, refl, sym, ap, subst, ◌∙◌, arith}
use Rattle.std.proofs.lemmas.Bool.{ltb-false}
use Rattle.std.proofs.lemmas.Bool.Decides.{eqb_tells}
use Rattle.std.proofs.lemmas.List.{take-append-drop, drop-drop}
use Rattle.byteorder.specs.Numbers.{big_from-take, little_from-take}
use Rattle.pcap_reader.specs.Numbers.{number_of}
use Rattle.pcapng_reader.specs.declared.section.Section.{Section}
use Rattle.pcapng_reader.specs.declared.place.Place.{Place}
use Rattle.pcapng_reader.specs.declared.block.Block.{Block}
use Rattle.pcapng_reader.specs.Numbers.{u32_at}
use Rattle.pcapng_reader.specs.Contents.{is_len, content_at}
use Rattle.pcapng_reader.specs.Blocks.{kind_of, order_of, total_len, tail_len, block_in, ordered}
use Rattle.pcapng_reader.specs.Blocks.{block_at}
use Rattle.pcapng_reader.specs.Laws.{IsFramed, HasFourPieces}
use Rattle.pcapng_reader.proofs.Checks.{taken, passed, and_then_ok}
use Rattle.pcapng_reader.proofs.Placed.{not_false, is_len_tells}

-- a number reads no byte past its end
number_of-take : (big : Bool) (bytes : List ℕ) → number_of big 4
    (take 4 bytes) ≡ number_of big 4 bytes
number_of-take true bytes = big_from-take 0 4 4 bytes (omega arith)
number_of-take false bytes = little_from-take 0 4 4 bytes (omega arith)

-- the next m bytes behind n
pub next_piece : (n m : ℕ) (bytes : List ℕ)
    → drop n bytes ≡ take m (drop n bytes) ++ drop (n + m) bytes
next_piece n m bytes = sym (take-append-drop m (drop n bytes)) ∙ ap (λ l. take m (drop n bytes)
    ++ l) (drop-drop m n bytes)

framed_so : (big : Bool) (len : ℕ) (bytes : List ℕ) → 12 ≤ len → len ≤ length bytes
    → u32_at big 4 bytes ≡ len → u32_at big (len - 4) bytes ≡ len → IsFramed big len bytes
unfolding u32_at
framed_so big len bytes least whole first last =
    let body = take (len - 12) (drop 8 bytes) in
    let end : 8 + (len - 12) ≡ len - 4 = omega arith in
    let behind : drop 8 bytes ≡ body ++ drop (len - 4) bytes = next_piece 8 (len - 12) bytes
    ∙ ap (λ n. body ++ drop n bytes) end in
    record {
      kind = take 4 bytes;
      first = take 4 (drop 4 bytes);
      body = body;
      last = take 4 (drop (len - 4) bytes);
      more = drop (len - 4 + 4) bytes;
      joined = next_piece 0 4 bytes
          ∙ ap (λ l. take 4 bytes ++ l) (next_piece 4 4 bytes)
          ∙ ap (λ l. take 4 bytes ++ (take 4 (drop 4 bytes) ++ l)) behind
          ∙ ap (λ l. take 4 bytes ++ (take 4 (drop 4 bytes) ++ (body ++ l)))
          (next_piece (len - 4) 4 bytes);
      kind_size = omega (arith, length-take 4 bytes);
      first_size = omega (arith, length-take 4 (drop 4 bytes), length-drop 4 bytes);
      body_size = omega (arith, length-take (len - 12) (drop 8 bytes), length-drop 8 bytes);
      last_size = omega (arith, length-take 4 (drop (len - 4) bytes), length-drop (len - 4) bytes);
      first_told = number_of-take big (drop 4 bytes) ∙ first;
      last_told = number_of-take big (drop (len - 4) bytes) ∙ last;
    }

multiple_of_4 : (kind len : ℕ) → is_len kind len ≡ true → len % 4 ≡ 0
multiple_of_4 kind len h = elim (eqb_tells (len % 4) 0) [
  | inl a ↦ a.1
  | inr a ↦ absurd (let e = rw a.0 at h in cc)
]

-- a whole block, and its length
abbrev HasPieces : Bool → List ℕ → Block → Type 0
HasPieces big bytes b = (b.len % 4 ≡ 0) × IsFramed big b.len bytes

block_pieces : (section : Section) (place : Place) (big : Bool) (rest : List ℕ) (b : Block)
    → block_in section place big rest ≡ Ok (Some b) → HasPieces big rest b
unfolding block_in
block_pieces section place big rest b h =
    let len = total_len big rest in
    let kind = kind_of section rest in
    let sized = passed (not (is_len kind len)) _ _ (Some b) h in
    let fits = not_false (is_len kind len) sized.0 in
    elim (taken (ltb (length rest) len) (Ok None) _ (Ok (Some b)) sized.1) [
      | inl short ↦ absurd (let e = short.1 in cc)
      | inr long ↦
          let tail = passed (not (eqb (tail_len big rest) len)) _ _ (Some b) long.1 in
          let (c, is, told) = and_then_ok _ (content_at section place kind big len rest)
          (Some b) tail.1 in
          let same : (let whole : Block = record { len = len; content = c } in whole) ≡ b =
          let e = told in cc in
          let last : tail_len big rest ≡ len = elim (eqb_tells (tail_len big rest) len) [
            | inl a ↦ a.1
            | inr a ↦ absurd (let e = sym a.0 ∙ not_false (eqb (tail_len big rest) len) tail.0 in
                cc)
          ] in
          subst (HasPieces big rest) same (
            multiple_of_4 kind len fits,
            framed_so big len rest (is_len_tells kind len fits)
                (ltb-false (length rest) len long.0) refl last,
          )
    ]

ordered_pieces : (section : Section) (place : Place) (rest : List ℕ) (o : Option Bool) (b : Block)
    → ordered section place rest o ≡ Ok (Some b)
    → (big : Bool) × (o ≡ Some big) × HasPieces big rest b
ordered_pieces section place rest None b h = absurd (cc)
ordered_pieces section place rest (Some big) b h =
    let p = block_pieces section place big rest b h in (big, refl, p)

pub has_four_pieces : HasFourPieces
unfolding block_at
has_four_pieces section place rest b h =
    elim (taken (ltb (length rest) 12) (Ok None) _ (Ok (Some b)) h) [
      | inl short ↦ absurd (let e = short.1 in cc)
      | inr long ↦
          let (big, is, p) = ordered_pieces section place rest (order_of section rest) b long.1 in
          (big, is, p.0, p.1)
    ]

-- A file is read just where it was put together after the format.
use Rattle.std.proofs.Common.{◌≡◌, ◌≤◌, ◌<◌, inl, inr, ℕ, ◌^◌, Bool, true}
use Rattle.std.proofs.Common.{false, not, ltb, eqb, List, [], ◌∷◌, ◌++◌, length, drop, Option}
use Rattle.std.proofs.Common.{Some, None, Ok, refl, ap, subst, ◌∙◌, arith}
use Rattle.std.proofs.lemmas.Bool.{lt-ltb, le-ltb, ltb-true, ltb-false, cases_lt, ne_eqb}
use Rattle.std.proofs.lemmas.List.Elements.{All-drop}
use Rattle.pcapng_reader.specs.declared.section.Section.{Section}
use Rattle.pcapng_reader.specs.declared.place.Place.{Place}
use Rattle.pcapng_reader.specs.declared.block.Block.{Block}
use Rattle.pcapng_reader.specs.Numbers.{u32_at}
use Rattle.pcapng_reader.specs.Contents.{is_len, content_at}
use Rattle.pcapng_reader.specs.Blocks.{kind_of, order_of, total_len, tail_len, block_in, ordered}
use Rattle.pcapng_reader.specs.Blocks.{block_at}
use Rattle.pcapng_reader.specs.Captures.{no_section, file_start, section_behind, place_behind}
use Rattle.pcapng_reader.specs.Captures.{Reads}
use Rattle.pcapng_reader.specs.Format.{field, IsInOrder, IsBegun, IsTruncated}
use Rattle.pcapng_reader.specs.Files.{AreWritten}
use Rattle.pcapng_reader.specs.Laws.{TruncatesWritten, ReadsWrittenFiles}
use Rattle.pcapng_reader.proofs.Checks.{taken, passed, and_then_ok}
use Rattle.pcapng_reader.proofs.Placed.{not_false, placed}
use Rattle.pcapng_reader.proofs.Fields.{skips, reads, Bytes, word_of, number_is, word_fits}
use Rattle.pcapng_reader.proofs.Taken.{OrderIs, order_tells, first_word, length_tells, written_only}
use Rattle.pcapng_reader.proofs.Assembled.{sized_so, ordered_so, header_kind, magic_order}
use Rattle.pcapng_reader.proofs.Assembled.{reads_written}

-- a block that is longer than the rest
cut_is : (section : Section) (place : Place) (rest : List ℕ) (big : Bool) (len kind : ℕ)
    → 12 ≤ length rest → length rest < len → order_of section rest ≡ Some big
    → u32_at big 4 rest ≡ len → kind_of section rest ≡ kind → is_len kind len ≡ true
    → block_at section place rest ≡ Ok None
unfolding block_at block_in
cut_is section place rest big len kind begun short order total is_kind sized =
    let a : ltb (length rest) 12 ≡ false = le-ltb (length rest) 12 begun in
    let b : ltb (length rest) len ≡ true = lt-ltb (length rest) len short in
    rw (a, order, total, is_kind, sized, b) refl

-- what the first two words of a block tell
kind_so : (section : Section) (big : Bool) (kind : ℕ) (l more : List ℕ) → kind < 2 ^ 32
    → IsInOrder section big kind more → kind_of section (field big 4 kind ++ l) ≡ kind
kind_so section big kind l more fits (inl header) =
    rw header.0 (header_kind section.big big l)
kind_so section big kind l more fits (inr other) =
    rw other.1 (reads big kind l fits)

order_so : (section : Section) (big : Bool) (kind total : ℕ) (more : List ℕ) → kind < 2 ^ 32
    → IsInOrder section big kind more
    → order_of section (field big 4 kind ++ (field big 4 total ++ more)) ≡ Some big
order_so section big kind total more fits (inl header) =
    let (is, after, magic) = header in
    rw (is, magic) (magic_order section big total after)
order_so section big kind total more fits (inr other) =
    ordered_so section (field big 4 kind ++ (field big 4 total ++ more)) kind
    (kind_so section big kind (field big 4 total ++ more) more fits (inr other))
    (ne_eqb kind 0x0a0d0d0a other.0)
    ∙ ap Some other.1

begun_is_cut : (section : Section) (place : Place) (bytes : List ℕ) → 12 ≤ length bytes
    → IsBegun section bytes → block_at section place bytes ≡ Ok None
begun_is_cut section place bytes enough h =
    let tail = field h.big 4 h.total ++ h.more in
    let flat = field h.big 4 h.kind ++ tail in
    let order : order_of section bytes ≡ Some h.big =
    ap (order_of section) h.joined
    ∙ order_so section h.big h.kind h.total h.more h.fits.0 h.order in
    let total : u32_at h.big 4 bytes ≡ h.total =
    ap (u32_at h.big 4) h.joined ∙ skips h.big h.big 0 h.kind tail
    ∙ reads h.big h.total h.more h.fits.1 in
    let kind : kind_of section bytes ≡ h.kind =
    ap (kind_of section) h.joined ∙ kind_so section h.big h.kind tail h.more h.fits.0 h.order in
    cut_is section place bytes h.big h.total h.kind enough h.short order total kind
    (sized_so h.kind h.total h.multiple h.least)

truncated_is_cut : (section : Section) (place : Place) (bytes : List ℕ)
    → IsTruncated section bytes → block_at section place bytes ≡ Ok None
unfolding block_at
truncated_is_cut section place bytes h = elim (cases_lt (length bytes) 12) [
  | inl few ↦
      let a : ltb (length bytes) 12 ≡ true = lt-ltb (length bytes) 12 few in
      rw a refl
  | inr enough ↦ elim h [
    | inl few ↦ absurd (omega (arith, few, enough))
    | inr begun ↦ begun_is_cut section place bytes enough begun
  ]
]

-- a block that is cut: what its checks told
record Cut (section : Section) (rest : List ℕ) : Type 0 where
  pub big : Bool
  pub order : order_of section rest ≡ Some big
  pub sized : is_len (kind_of section rest) (total_len big rest) ≡ true
  pub short : length rest < total_len big rest

cut_in : (section : Section) (place : Place) (big : Bool) (rest : List ℕ)
    → order_of section rest ≡ Some big → block_in section place big rest ≡ Ok None
    → Cut section rest
unfolding block_in
cut_in section place big rest order h =
    let len = total_len big rest in
    let kind = kind_of section rest in
    let sized = passed (not (is_len kind len)) _ _ None h in
    elim (taken (ltb (length rest) len) (Ok None) _ (Ok None) sized.1) [
      | inl short ↦ record {
        big = big;
        order = order;
        sized = not_false (is_len kind len) sized.0;
        short = ltb-true (length rest) len short.0;
      }
      | inr long ↦
          let tail = passed (not (eqb (tail_len big rest) len)) _ _ None long.1 in
          let (c, is, told) = and_then_ok _ (content_at section place kind big len rest)
          None tail.1 in
          absurd (let e = told in cc)
    ]

cut_by : (section : Section) (place : Place) (rest : List ℕ) (o : Option Bool)
    → order_of section rest ≡ o → ordered section place rest o ≡ Ok None → Cut section rest
cut_by section place rest None order h = absurd (cc)
cut_by section place rest (Some big) order h = cut_in section place big rest order h

in_order : (section : Section) (rest : List ℕ) (big : Bool) → 12 ≤ length rest → Bytes rest
    → OrderIs section rest big → IsInOrder section big (kind_of section rest) (drop 8 rest)
in_order section rest big enough small (inl other) = inr other
in_order section rest big enough small (inr header) =
    inl (
      header.0,
      drop 12 rest,
      word_of big rest 8 enough small
          ∙ ap (λ n. field big 4 n ++ drop 12 rest) (number_is big rest 8 0x1a2b3c4d header.1),
    )

cut_is_begun : (section : Section) (rest : List ℕ) → 12 ≤ length rest → Bytes rest
    → Cut section rest → IsBegun section rest
cut_is_begun section rest enough small h =
    let big = h.big in
    let len = total_len big rest in
    let kind = kind_of section rest in
    let order = order_tells section rest big h.order in
    let told = length_tells kind len h.sized in
    record {
      big = big;
      kind = kind;
      total = len;
      more = drop 8 rest;
      joined = first_word section rest big order (omega (arith, enough)) small
          ∙ ap (λ l. field big 4 kind ++ l) (word_of big rest 4 (omega (arith, enough)) small
          ∙ ap (λ n. field big 4 n ++ drop 8 rest) (number_is big rest 4 len refl));
      order = in_order section rest big enough small order;
      multiple = told.0;
      least = told.1;
      short = h.short;
      fits = (word_fits section.big 0 rest small, word_fits big 4 rest small);
    }

cut_is_truncated : (section : Section) (place : Place) (rest : List ℕ) → Bytes rest
    → block_at section place rest ≡ Ok None → IsTruncated section rest
unfolding block_at
cut_is_truncated section place rest small h =
    elim (taken (ltb (length rest) 12) (Ok None) _ (Ok None) h) [
      | inl few ↦ inl (ltb-true (length rest) 12 few.0)
      | inr enough ↦
          inr (cut_is_begun section rest (ltb-false (length rest) 12 enough.0) small
          (cut_by section place rest (order_of section rest) refl enough.1))
    ]

pub truncates_written : TruncatesWritten
truncates_written section place bytes small =
    (truncated_is_cut section place bytes, cut_is_truncated section place bytes small)

-- blocks that were put together are read
written_reads : (section : Section) (place : Place) (bytes : List ℕ) (blocks : List Block)
    (cut : Option ℕ) → AreWritten section place bytes blocks cut
    → Reads section place bytes blocks (Ok cut)
written_reads section place bytes [] None h = h
written_reads section place bytes [] (Some cut) h =
    (h.0, truncated_is_cut section place bytes h.1, h.2)
written_reads section place bytes (b ∷ bs) cut h =
    let (more, block, rest) = h in
    let (read, behind) = reads_written section place bytes more b block in
    let p = placed section place bytes b read in (
      omega (arith, p.least, p.whole),
      read,
      subst (λ l. Reads (section_behind section b.content) (place_behind place b) l bs (Ok cut))
          behind
          (written_reads (section_behind section b.content) (place_behind place b) more bs cut
          rest),
    )

-- blocks that are read were put together
reads_are_written : (section : Section) (place : Place) (bytes : List ℕ) (blocks : List Block)
    (cut : Option ℕ) → Bytes bytes → Reads section place bytes blocks (Ok cut)
    → AreWritten section place bytes blocks cut
reads_are_written section place bytes [] None small h = h
reads_are_written section place bytes [] (Some cut) small h =
    (h.0, cut_is_truncated section place bytes small h.1, h.2)
reads_are_written section place bytes (b ∷ bs) cut small h = (
  drop b.len bytes,
  written_only section place bytes b small h.1,
  reads_are_written (section_behind section b.content) (place_behind place b)
      (drop b.len bytes) bs cut (All-drop (λ x. x < 256) b.len bytes small) h.2,
)

pub reads_written_files : ReadsWrittenFiles
reads_written_files bytes capture small = (
  λ h. record {
    begins = h.begins;
    blocks = h.blocks;
    read = written_reads no_section file_start bytes h.blocks capture.cut h.written;
    packets = h.packets;
    order = h.order;
    unit = h.unit;
  },
  λ h. record {
    begins = h.begins;
    blocks = h.blocks;
    written = reads_are_written no_section file_start bytes h.blocks capture.cut small h.read;
    packets = h.packets;
    order = h.order;
    unit = h.unit;
  },
)

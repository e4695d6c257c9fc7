-- What a writer puts together is read as the block that it says.
use Rattle.std.proofs.Common.{◌≡◌, ◌≤◌, ◌<◌, inl, inr, ℕ, ◌+◌, ◌-◌, ◌%◌, ◌^◌, Bool, true, false}
use Rattle.std.proofs.Common.{leb, ltb, eqb, List, ◌++◌, length, drop, Some, Ok}
use Rattle.std.proofs.Common.{append_assoc, length-append, refl, sym, ap, ◌∙◌, arith}
use Rattle.std.proofs.lemmas.Bool.{le-ltb, le-leb, lt-leb, ne_eqb, cases_order}
use Rattle.std.proofs.lemmas.Bool.Decides.{eqb_tells}
use Rattle.std.proofs.lemmas.List.{drop_at}
use Rattle.pcap_reader.specs.declared.record.PcapRecord.{PcapRecord}
use Rattle.pcapng_reader.specs.declared.section.Interface.{Interface}
use Rattle.pcapng_reader.specs.declared.section.Section.{Section}
use Rattle.pcapng_reader.specs.declared.place.Place.{Place}
use Rattle.pcapng_reader.specs.declared.content.Content.{Content}
use Rattle.pcapng_reader.specs.declared.content.Content.TheVariants as content
use Rattle.pcapng_reader.specs.Numbers.{u16_at, u32_at}
use Rattle.pcapng_reader.specs.Contents.{is_len, least_len, padded, kept, ethernet_of, framed}
use Rattle.pcapng_reader.specs.Contents.{enhanced, simple, content_at}
use Rattle.pcapng_reader.specs.Blocks.{kind_of, order_of, block_at}
use Rattle.pcapng_reader.specs.Format.{field, block_bytes, IsSectionHeader, IsInterface, IsPacket}
use Rattle.pcapng_reader.specs.Format.{Pads, IsEnhanced, IsCaptured, IsSimple, IsSkipped, Says}
use Rattle.pcapng_reader.specs.Laws.{ReadsWritten}
use Rattle.pcapng_reader.proofs.Fields.{word_at, half_at, length-field, skips, skips_2, reads}
use Rattle.pcapng_reader.proofs.Written.{block_is}

-- a block of a body, and what follows it
abbrev Block_of : Bool → ℕ → ℕ → List ℕ → List ℕ → List ℕ
Block_of big kind total body behind =
    field big 4 kind ++ (field big 4 total ++ (body ++ (field big 4 total ++ behind)))

joined_so : (big : Bool) (kind : ℕ) (body more : List ℕ) → block_bytes big kind body ++ more
    ≡ Block_of big kind (length body + 12) body more
joined_so big kind body more =
    let k = field big 4 kind in
    let t = field big 4 (length body + 12) in
    append_assoc k (t ++ (body ++ t)) more
    ∙ ap (λ l. k ++ l) (append_assoc t (body ++ t) more)
    ∙ ap (λ l. k ++ (t ++ l)) (append_assoc body t more)

length-Block_of : (big : Bool) (kind total : ℕ) (body more : List ℕ)
    → length (Block_of big kind total body more) ≡ length body + 12 + length more
length-Block_of big kind total body more =
    let t = field big 4 total in
    omega (
      arith,
      length-append (field big 4 kind) (t ++ (body ++ (t ++ more))),
      length-append t (body ++ (t ++ more)),
      length-append body (t ++ more),
      length-append t more,
      length-field big 4 kind,
      length-field big 4 total,
    )

-- the second total length
tail_of : (big : Bool) (kind total : ℕ) (body more : List ℕ) → total ≡ length body + 12
    → total < 2 ^ 32 → u32_at big (total - 4) (Block_of big kind total body more) ≡ total
tail_of big kind total body more is fits =
    let k = field big 4 kind in
    let t = field big 4 total in
    let pieces : Block_of big kind total body more ≡ (k ++ (t ++ body)) ++ (t ++ more) =
    sym (append_assoc k (t ++ body) (t ++ more) ∙ ap (λ l. k ++ l) (append_assoc t body
    (t ++ more))) in
    let size : length (k ++ (t ++ body)) ≡ total - 4 =
    omega (
      arith,
      is,
      length-append k (t ++ body),
      length-append t body,
      length-field big 4 kind,
      length-field big 4 total,
    ) in
    word_at big (Block_of big kind total body more) (k ++ (t ++ body)) total more (total - 4)
    pieces size fits

-- what a content needs to be read
record IsRead (section : Section) (place : Place) (big : Bool) (kind total : ℕ)
    (bytes : List ℕ) (c : Content) : Type 0 where
  pub order : order_of section bytes ≡ Some big
  pub kind_is : kind_of section bytes ≡ kind
  pub sized : is_len kind total ≡ true
  pub told : content_at section place kind big total bytes ≡ Ok c

pub sized_so : (kind total : ℕ) → total % 4 ≡ 0 → least_len kind ≤ total → is_len kind total ≡ true
sized_so kind total multiple least =
    let a : eqb (total % 4) 0 ≡ true = rw multiple refl in
    let b : leb (least_len kind) total ≡ true = le-leb (least_len kind) total least in
    rw (a, b) refl

pub ordered_so : (section : Section) (bytes : List ℕ) (kind : ℕ) → kind_of section bytes ≡ kind
    → eqb kind 0x0a0d0d0a ≡ false → order_of section bytes ≡ Some section.big
unfolding order_of
ordered_so section bytes kind is other = rw (is, other) refl

-- a section header begins alike in both byte orders
pub header_kind : (order big : Bool) (more : List ℕ)
    → u32_at order 0 (field big 4 0x0a0d0d0a ++ more) ≡ 0x0a0d0d0a
unfolding u32_at
header_kind true true more = refl
header_kind true false more = refl
header_kind false true more = refl
header_kind false false more = refl

pub magic_order : (section : Section) (big : Bool) (total : ℕ) (more : List ℕ)
    → order_of section
    (field big 4 0x0a0d0d0a ++ (field big 4 total ++ (field big 4 0x1a2b3c4d ++ more)))
    ≡ Some big
unfolding order_of u32_at
magic_order section true total more =
    let e = header_kind section.big true
    (field true 4 total ++ (field true 4 0x1a2b3c4d ++ more)) in rw e refl
magic_order section false total more =
    let e = header_kind section.big false
    (field false 4 total ++ (field false 4 0x1a2b3c4d ++ more)) in rw e refl

version_is : (big : Bool) (total : ℕ) (more : List ℕ) → u16_at big 12
    (field big 4 0x0a0d0d0a ++ (field big 4 total ++ (field big 4 0x1a2b3c4d
    ++ (field big 2 1 ++ more)))) ≡ 1
unfolding u16_at
version_is true total more = refl
version_is false total more = refl

section_said : (section : Section) (place : Place) (big : Bool) (body tail : List ℕ)
    (total : ℕ) → total ≡ length body + 12 → length body % 4 ≡ 0 → IsSectionHeader big body
    → IsRead section place big 0x0a0d0d0a total
    (field big 4 0x0a0d0d0a ++ (field big 4 total ++ (body ++ tail))) (content.Section big)
unfolding content_at
section_said section place big body tail total is multiple h =
    let magic = field big 4 0x1a2b3c4d in
    let one = field big 2 1 in
    let rest = h.minor ++ (h.section_len ++ h.options) in
    let flat : body ++ tail ≡ magic ++ (one ++ (rest ++ tail)) =
    ap (λ l. l ++ tail) h.written
    ∙ append_assoc magic (one ++ rest) tail
    ∙ ap (λ l. magic ++ l) (append_assoc one rest tail) in
    let bytes : List ℕ → List ℕ = λ l. field big 4 0x0a0d0d0a ++ (field big 4 total ++ l) in
    let least : 28 ≤ total =
    omega (
      arith,
      is,
      ap length h.written,
      length-append magic (one ++ rest),
      length-append one rest,
      length-append h.minor (h.section_len ++ h.options),
      length-append h.section_len h.options,
      length-field big 4 0x1a2b3c4d,
      length-field big 2 1,
      h.minor_size,
      h.len_size,
    ) in
    let version : u16_at big 12 (bytes (body ++ tail)) ≡ 1 =
    ap (λ l. u16_at big 12 (bytes l)) flat ∙ version_is big total (rest ++ tail) in
    record {
      order = ap (λ l. order_of section (bytes l)) flat
          ∙ magic_order section big total (one ++ (rest ++ tail));
      kind_is = header_kind section.big big (field big 4 total ++ (body ++ tail));
      sized = sized_so 0x0a0d0d0a total (omega (arith, is, multiple)) least;
      told = rw version refl;
    }

-- a block of another type, in the order of its section
pub plain_kind : (section : Section) (kind : ℕ) (more : List ℕ) → kind < 2 ^ 32
    → kind_of section (field section.big 4 kind ++ more) ≡ kind
plain_kind section kind more fits = reads section.big kind more fits

interface_said : (section : Section) (place : Place) (interface : Interface) (body tail : List ℕ)
    (total : ℕ) → total ≡ length body + 12 → length body % 4 ≡ 0
    → IsInterface section.big interface body
    → IsRead section place section.big 1 total
    (field section.big 4 1 ++ (field section.big 4 total ++ (body ++ tail)))
    (content.Interface interface)
unfolding content_at
interface_said section place interface body tail total is multiple h =
    let big = section.big in
    let k = field big 4 1 in
    let t = field big 4 total in
    let link = field big 2 interface.link in
    let snap = field big 4 interface.snap in
    let bytes = k ++ (t ++ (body ++ tail)) in
    let flat : body ++ tail ≡ link ++ (h.reserved ++ (snap ++ (h.options ++ tail))) =
    ap (λ l. l ++ tail) h.written
    ∙ append_assoc link (h.reserved ++ (snap ++ h.options)) tail
    ∙ ap (λ l. link ++ l) (append_assoc h.reserved (snap ++ h.options) tail)
    ∙ ap (λ l. link ++ (h.reserved ++ l)) (append_assoc snap h.options tail) in
    let front : bytes ≡ (k ++ t) ++ (body ++ tail) = sym (append_assoc k t (body ++ tail)) in
    let size : length (k ++ t) ≡ 8 =
    omega (arith, length-append k t, length-field big 4 1, length-field big 4 total) in
    let at_link : bytes ≡ (k ++ t) ++ (link ++ (h.reserved ++ (snap ++ (h.options ++ tail)))) =
    front ∙ ap (λ l. (k ++ t) ++ l) flat in
    let at_snap : bytes ≡ (((k ++ t) ++ link) ++ h.reserved) ++ (snap ++ (h.options ++ tail)) =
    at_link
    ∙ sym (append_assoc ((k ++ t) ++ link) h.reserved (snap ++ (h.options ++ tail))
    ∙ append_assoc (k ++ t) link (h.reserved ++ (snap ++ (h.options ++ tail)))) in
    let before : length (((k ++ t) ++ link) ++ h.reserved) ≡ 12 =
    omega (
      arith,
      size,
      length-append ((k ++ t) ++ link) h.reserved,
      length-append (k ++ t) link,
      length-field big 2 interface.link,
      h.reserved_size,
    ) in
    let link_is : u16_at big 8 bytes ≡ interface.link =
    half_at big bytes (k ++ t) interface.link (h.reserved ++ (snap ++ (h.options ++ tail))) 8
    at_link size h.link_fits in
    let snap_is : u32_at big 12 bytes ≡ interface.snap =
    word_at big bytes (((k ++ t) ++ link) ++ h.reserved) interface.snap (h.options ++ tail) 12
    at_snap before h.snap_fits in
    let kind_is = plain_kind section 1 (t ++ (body ++ tail)) (omega arith) in
    let least : 20 ≤ total =
    omega (
      arith,
      is,
      ap length h.written,
      length-append link (h.reserved ++ (snap ++ h.options)),
      length-append h.reserved (snap ++ h.options),
      length-append snap h.options,
      length-field big 2 interface.link,
      length-field big 4 interface.snap,
      h.reserved_size,
    ) in
    record {
      order = ordered_so section bytes 1 kind_is refl;
      kind_is = kind_is;
      sized = sized_so 1 total (omega (arith, is, multiple)) least;
      told = rw (link_is, snap_is) refl;
    }

skipped_said : (section : Section) (place : Place) (kind : ℕ) (body tail : List ℕ)
    (total : ℕ) → total ≡ length body + 12 → length body % 4 ≡ 0 → IsSkipped kind
    → IsRead section place section.big kind total
    (field section.big 4 kind ++ (field section.big 4 total ++ (body ++ tail))) content.Other
unfolding content_at
skipped_said section place kind body tail total is multiple h =
    let big = section.big in
    let bytes = field big 4 kind ++ (field big 4 total ++ (body ++ tail)) in
    let kind_is = plain_kind section kind (field big 4 total ++ (body ++ tail)) h.fits in
    let a : eqb kind 0x0a0d0d0a ≡ false = ne_eqb kind 0x0a0d0d0a h.section in
    let b : eqb kind 1 ≡ false = ne_eqb kind 1 h.interface in
    let d : eqb kind 6 ≡ false = ne_eqb kind 6 h.enhanced in
    let e : eqb kind 3 ≡ false = ne_eqb kind 3 h.simple in
    let least : least_len kind ≡ 12 = rw (a, b, d, e) refl in
    record {
      order = ordered_so section bytes kind kind_is a;
      kind_is = kind_is;
      sized = sized_so kind total (omega (arith, is, multiple)) (rw least (omega (arith, is)));
      told = rw (a, b, d, e) refl;
    }

ethernet_said : (section : Section) (place : Place) (id at : ℕ) (interface : Interface)
    (frame : List ℕ) (r : PcapRecord) → IsPacket section place id interface at frame r
    → ethernet_of section place id ≡ Ok interface
unfolding ethernet_of
ethernet_said section place id at interface frame r h =
    let a : leb 262144 place.packets ≡ false = lt-leb 262144 place.packets h.few in
    let b : eqb interface.link 1 ≡ true = rw h.ethernet refl in
    rw (a, h.described, b) refl

-- a padded frame has the length of the frame with its padding
padded_so : (padding frame : List ℕ) → Pads padding frame
    → padded (length frame) ≡ length frame + length padding
padded_so padding frame h = omega (arith, h.0, h.1)

framed_said : (place : Place) (total at : ℕ) (r : PcapRecord) → r.len ≤ 262144
    → at + padded r.len + 4 ≤ total → framed place total at r ≡ Ok (content.Packet r)
unfolding framed
framed_said place total at r few room =
    let a : ltb 262144 r.len ≡ false = le-ltb 262144 r.len few in
    let b : ltb total (at + padded r.len + 4) ≡ false =
    le-ltb total (at + padded r.len + 4) room in
    rw (a, b) refl

-- the record of a packet, as it is read
record_so : (place : Place) (at : ℕ) (r : PcapRecord) (sec frac len orig : ℕ)
    → r.start ≡ place.start + at → sec ≡ r.sec → frac ≡ r.frac → len ≡ r.len → orig ≡ r.orig
    → (let read : PcapRecord = record {
      sec = sec;
      frac = frac;
      start = place.start + at;
      len = len;
      orig = orig;
    } in read) ≡ r
record_so place at r sec frac len orig start a b d e = rw (sym start, a, b, d, e) refl

-- the fields of five words, and what is behind them
five : (big : Bool) (a b d e f : ℕ) (rest tail : List ℕ)
    → (field big 4 a ++ (field big 4 b ++ (field big 4 d ++ (field big 4 e ++ (field big 4 f
    ++ rest))))) ++ tail
    ≡ field big 4 a ++ (field big 4 b ++ (field big 4 d ++ (field big 4 e ++ (field big 4 f
    ++ (rest ++ tail)))))
five true a b d e f rest tail = refl
five false a b d e f rest tail = refl

length-five : (big : Bool) (a b d e f : ℕ) (rest : List ℕ)
    → length (field big 4 a ++ (field big 4 b ++ (field big 4 d ++ (field big 4 e
    ++ (field big 4 f ++ rest))))) ≡ 20 + length rest
length-five true a b d e f rest = omega arith
length-five false a b d e f rest = omega arith

enhanced_said : (section : Section) (place : Place) (r : PcapRecord) (body tail : List ℕ)
    (total : ℕ) → total ≡ length body + 12 → length body % 4 ≡ 0
    → IsEnhanced section place r body
    → IsRead section place section.big 6 total
    (field section.big 4 6 ++ (field section.big 4 total ++ (body ++ tail))) (content.Packet r)
unfolding content_at enhanced
enhanced_said section place r body tail total is multiple h =
    let big = section.big in
    let p = h.packet in
    let len = length h.frame in
    let rest = h.frame ++ (h.padding ++ h.options) in
    let bytes : List ℕ → List ℕ = λ l. field big 4 6 ++ (field big 4 total ++ l) in
    let flat : body ++ tail ≡ field big 4 h.id ++ (field big 4 r.sec ++ (field big 4 r.frac
    ++ (field big 4 len ++ (field big 4 r.orig ++ (rest ++ tail))))) =
    ap (λ l. l ++ tail) h.written ∙ five big h.id r.sec r.frac len r.orig rest tail in
    let t7 = rest ++ tail in
    let t6 = field big 4 r.orig ++ t7 in
    let t5 = field big 4 len ++ t6 in
    let t4 = field big 4 r.frac ++ t5 in
    let t3 = field big 4 r.sec ++ t4 in
    let t2 = field big 4 h.id ++ t3 in
    let behind : (n : ℕ) → u32_at big (8 + n) (bytes (body ++ tail)) ≡ u32_at big n t2 =
    λ n. ap (λ l. u32_at big (8 + n) (bytes l)) flat ∙ skips_2 big n 6 total t2 in
    let id : u32_at big 8 (bytes (body ++ tail)) ≡ h.id = behind 0 ∙ reads big h.id t3 h.fits.0 in
    let sec : u32_at big 12 (bytes (body ++ tail)) ≡ r.sec = behind 4 ∙ skips big big 0 h.id t3
    ∙ reads big r.sec t4 h.fits.1 in
    let frac : u32_at big 16 (bytes (body ++ tail)) ≡ r.frac = behind 8 ∙ skips big big 4 h.id t3
    ∙ skips big big 0 r.sec t4 ∙ reads big r.frac t5 h.fits.2 in
    let captured : u32_at big 20 (bytes (body ++ tail)) ≡ r.len = behind 12
    ∙ skips big big 8 h.id t3 ∙ skips big big 4 r.sec t4 ∙ skips big big 0 r.frac t5
    ∙ reads big len t6 (omega (arith, p.small)) ∙ sym p.len in
    let orig : u32_at big 24 (bytes (body ++ tail)) ≡ r.orig = behind 16
    ∙ skips big big 12 h.id t3 ∙ skips big big 8 r.sec t4 ∙ skips big big 4 r.frac t5
    ∙ skips big big 0 len t6 ∙ reads big r.orig t7 h.fits.3 in
    let kind_is = plain_kind section 6 (field big 4 total ++ (body ++ tail)) (omega arith) in
    let size : length body ≡ 20 + (len + (length h.padding + length h.options)) =
    ap length h.written ∙ length-five big h.id r.sec r.frac len r.orig rest
    ∙ ap (λ n. 20 + n) (length-append h.frame (h.padding ++ h.options)
    ∙ ap (λ n. len + n) (length-append h.padding h.options)) in
    let pad = padded_so h.padding h.frame h.pads in
    let room : 28 + padded r.len + 4 ≤ total = rw p.len (omega (arith, size, pad, is)) in
    let framed_is = framed_said place total 28 r (rw p.len p.small) room in
    let ethernet = ethernet_said section place h.id 28 h.interface h.frame r p in
    record {
      order = ordered_so section (bytes (body ++ tail)) 6 kind_is refl;
      kind_is = kind_is;
      sized = sized_so 6 total (omega (arith, is, multiple)) (omega (arith, size, is));
      told = rw (id, ethernet, sec, frac, captured, orig, sym p.start) framed_is;
    }

-- what the interface keeps of a packet is what is captured
kept_so : (interface : Interface) (orig len : ℕ) → IsCaptured interface.snap orig len
    → kept interface orig ≡ len
kept_so interface orig len h = elim (eqb_tells interface.snap 0) [
  | inl a ↦ rw a.0 (elim (cases_order len orig) [
    | inl same ↦ sym same
    | inr (inl less) ↦ absurd (omega (arith, a.1, (h.all less).0))
    | inr (inr more) ↦ absurd (omega (arith, more, h.most))
  ])
  | inr a ↦
      let some : 0 < interface.snap = omega (arith, a.1) in
      rw a.0 (elim (cases_order len orig) [
        | inl same ↦ omega (arith, same, h.kept some)
        | inr (inl less) ↦ omega (arith, less, (h.all less).1)
        | inr (inr more) ↦ absurd (omega (arith, more, h.most))
      ])
]

simple_said : (section : Section) (place : Place) (r : PcapRecord) (body tail : List ℕ)
    (total : ℕ) → total ≡ length body + 12 → length body % 4 ≡ 0
    → IsSimple section place r body
    → IsRead section place section.big 3 total
    (field section.big 4 3 ++ (field section.big 4 total ++ (body ++ tail))) (content.Packet r)
unfolding content_at simple
simple_said section place r body tail total is multiple h =
    let big = section.big in
    let p = h.packet in
    let len = length h.frame in
    let rest = h.frame ++ (h.padding ++ h.more) in
    let word = field big 4 r.orig in
    let bytes : List ℕ → List ℕ = λ l. field big 4 3 ++ (field big 4 total ++ l) in
    let flat : body ++ tail ≡ word ++ (rest ++ tail) =
    ap (λ l. l ++ tail) h.written ∙ append_assoc word rest tail in
    let orig : u32_at big 8 (bytes (body ++ tail)) ≡ r.orig =
    ap (λ l. u32_at big 8 (bytes l)) flat
    ∙ skips big big 4 3 (field big 4 total ++ (word ++ (rest ++ tail)))
    ∙ skips big big 0 total (word ++ (rest ++ tail))
    ∙ reads big r.orig (rest ++ tail) h.fits in
    let kind_is = plain_kind section 3 (field big 4 total ++ (body ++ tail)) (omega arith) in
    let size : length body ≡ 4 + (len + (length h.padding + length h.more)) =
    omega (
      arith,
      ap length h.written,
      length-append word rest,
      length-append h.frame (h.padding ++ h.more),
      length-append h.padding h.more,
      length-field big 4 r.orig,
    ) in
    let pad = padded_so h.padding h.frame h.pads in
    let room : 12 + padded r.len + 4 ≤ total = rw p.len (omega (arith, size, pad, is)) in
    let framed_is = framed_said place total 12 r (rw p.len p.small) room in
    let ethernet = ethernet_said section place 0 12 h.interface h.frame r p in
    let captured : kept h.interface r.orig ≡ r.len =
    kept_so h.interface r.orig len h.captured ∙ sym p.len in
    record {
      order = ordered_so section (bytes (body ++ tail)) 3 kind_is refl;
      kind_is = kind_is;
      sized = sized_so 3 total (omega (arith, is, multiple)) (omega (arith, size, is));
      told = rw (ethernet, orig, captured) (ap (framed place total 12)
          (record_so place 12 r 0 0 r.len r.orig p.start (sym h.second) (sym h.fraction) refl refl)
          ∙ framed_is);
    }

said : (section : Section) (place : Place) (big : Bool) (kind : ℕ) (body tail : List ℕ) (total : ℕ)
    (c : Content) → total ≡ length body + 12 → length body % 4 ≡ 0
    → Says section place big kind body c
    → IsRead section place big kind total
    (field big 4 kind ++ (field big 4 total ++ (body ++ tail))) c
said section place big kind body tail total (content.Section order) is multiple h =
    rw (h.0, h.1) (section_said section place big body tail total is multiple h.2)
said section place big kind body tail total (content.Interface interface) is multiple h =
    rw (sym h.0, h.1) (interface_said section place interface body tail total is multiple
    (rw h.0 h.2))
said section place big kind body tail total (content.Packet r) is multiple h = elim h.1 [
  | inl a ↦ rw (sym h.0, a.0) (enhanced_said section place r body tail total is multiple a.1)
  | inr a ↦ rw (sym h.0, a.0) (simple_said section place r body tail total is multiple a.1)
]
said section place big kind body tail total content.Other is multiple h =
    rw (sym h.0) (skipped_said section place kind body tail total is multiple h.1)

pub reads_written : ReadsWritten
reads_written section place bytes more b h =
    let body = h.body in
    let total = b.len in
    let k = field h.big 4 h.kind in
    let t = field h.big 4 total in
    let pieces : bytes ≡ Block_of h.big h.kind total body more =
    h.joined ∙ joined_so h.big h.kind body more
    ∙ ap (λ n. Block_of h.big h.kind n body more) (sym h.len) in
    let r = said section place h.big h.kind body (t ++ more) total b.content h.len h.padded
    h.says in
    let size = length-Block_of h.big h.kind total body more in
    let read : block_at section place (Block_of h.big h.kind total body more) ≡ Ok (Some b) =
    block_is section place (Block_of h.big h.kind total body more) h.big total h.kind b.content
    (omega (arith, size)) (omega (arith, size, h.len)) r.order
    (skips h.big h.big 0 h.kind (t ++ (body ++ (t ++ more)))
    ∙ reads h.big total (body ++ (t ++ more)) h.small)
    r.kind_is r.sized (tail_of h.big h.kind total body more h.len h.small) r.told in
    let front : bytes ≡ (k ++ (t ++ (body ++ t))) ++ more =
    h.joined ∙ ap (λ n. (k ++ (field h.big 4 n ++ (body ++ field h.big 4 n))) ++ more)
    (sym h.len) in
    let whole : length (k ++ (t ++ (body ++ t))) ≡ total =
    omega (
      arith,
      h.len,
      length-append k (t ++ (body ++ t)),
      length-append t (body ++ t),
      length-append body t,
      length-field h.big 4 h.kind,
      length-field h.big 4 total,
    ) in (
      ap (block_at section place) pieces ∙ read,
      sym (ap (drop total) front ∙ drop_at (k ++ (t ++ (body ++ t))) more total whole),
    )

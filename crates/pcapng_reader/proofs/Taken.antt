-- A block that is read is one that a writer put together, and says what was read.
use Rattle.std.proofs.Common.{◌≡◌, ◌≢◌, ◌≤◌, ◌<◌, ◌⊎◌, inl, inr, ℕ, ◌+◌, ◌-◌, ◌%◌, ◌^◌, Bool}
use Rattle.std.proofs.Common.{min, true, false, not, leb, ltb, eqb, List, ◌++◌, length, take, drop}
use Rattle.std.proofs.Common.{Option, Some, None, Ok, append_assoc, length-take, length-drop, refl}
use Rattle.std.proofs.Common.{sym, ap, subst, ◌∙◌, arith}
use Rattle.std.specs.Prelude.{slice_get}
use Rattle.std.proofs.lemmas.Bool.{ltb-false, leb-false, leb-true}
use Rattle.std.proofs.lemmas.Bool.Decides.{eqb_tells}
use Rattle.std.proofs.lemmas.List.{drop-drop, drop-append-le}
use Rattle.std.proofs.lemmas.List.Elements.{All-take, All-drop}
use Rattle.pcap_reader.specs.Numbers.{number_of}
use Rattle.pcap_reader.specs.declared.record.PcapRecord.{PcapRecord}
use Rattle.pcapng_reader.specs.declared.section.Interface.{Interface}
use Rattle.pcapng_reader.specs.declared.section.Section.{Section}
use Rattle.pcapng_reader.specs.declared.place.Place.{Place}
use Rattle.pcapng_reader.specs.declared.block.Block.{Block}
use Rattle.pcapng_reader.specs.declared.content.Content.{Content}
use Rattle.pcapng_reader.specs.declared.content.Content.TheVariants as content
use Rattle.pcapng_reader.specs.Numbers.{u16_at, u32_at}
use Rattle.pcapng_reader.specs.Contents.{is_len, least_len, padded, kept, linked, ethernet_of}
use Rattle.pcapng_reader.specs.Contents.{framed, enhanced, simple, content_at}
use Rattle.pcapng_reader.specs.Blocks.{kind_of, order_of, total_len, tail_len, block_in, ordered}
use Rattle.pcapng_reader.specs.Blocks.{block_at}
use Rattle.pcapng_reader.specs.Format.{field, IsInterface}
use Rattle.pcapng_reader.specs.Format.{Pads, IsEnhanced, IsCaptured, IsSimple, Says}
use Rattle.pcapng_reader.specs.Laws.{ReadsWrittenOnly}
use Rattle.pcapng_reader.proofs.Checks.{taken, passed, and_then_ok}
use Rattle.pcapng_reader.proofs.Fields.{number_of-append, Bytes, word_of, half_of, number_is}
use Rattle.pcapng_reader.proofs.Fields.{word_fits, half_fits}
use Rattle.pcapng_reader.proofs.Pieces.{next_piece}
use Rattle.pcapng_reader.proofs.Placed.{not_false, is_len_tells}

-- a block that is read: what its checks told
record Found (section : Section) (place : Place) (rest : List ℕ) (b : Block) : Type 0 where
  pub big : Bool
  pub order : order_of section rest ≡ Some big
  pub sized : is_len (kind_of section rest) b.len ≡ true
  pub whole : b.len ≤ length rest
  pub total : u32_at big 4 rest ≡ b.len
  pub tail : u32_at big (b.len - 4) rest ≡ b.len
  pub told : content_at section place (kind_of section rest) big b.len rest ≡ Ok b.content

found_in : (section : Section) (place : Place) (big : Bool) (rest : List ℕ) (b : Block)
    → order_of section rest ≡ Some big
    → block_in section place big rest ≡ Ok (Some b) → Found section place rest b
unfolding block_in
found_in section place big rest b order h =
    let len = total_len big rest in
    let kind = kind_of section rest in
    let sized = passed (not (is_len kind len)) _ _ (Some b) h in
    elim (taken (ltb (length rest) len) (Ok None) _ (Ok (Some b)) sized.1) [
      | inl short ↦ absurd (let e = short.1 in cc)
      | inr long ↦
          let tail = passed (not (eqb (tail_len big rest) len)) _ _ (Some b) long.1 in
          let (c, is, told) = and_then_ok _ (content_at section place kind big len rest)
          (Some b) tail.1 in
          let same : (let whole : Block = record { len = len; content = c } in whole) ≡ b =
          let e = told in cc in
          let last : tail_len big rest ≡ len = elim (eqb_tells (tail_len big rest) len) [
            | inl a ↦ a.1
            | inr a ↦ absurd (let e = sym a.0 ∙ not_false (eqb (tail_len big rest) len) tail.0 in
                cc)
          ] in
          subst (Found section place rest) same (record {
            big = big;
            order = order;
            sized = not_false (is_len kind len) sized.0;
            whole = ltb-false (length rest) len long.0;
            total = refl;
            tail = last;
            told = is;
          })
    ]

found_by : (section : Section) (place : Place) (rest : List ℕ) (o : Option Bool) (b : Block)
    → order_of section rest ≡ o → ordered section place rest o ≡ Ok (Some b)
    → Found section place rest b
found_by section place rest None b order h = absurd (cc)
found_by section place rest (Some big) b order h = found_in section place big rest b order h

found : (section : Section) (place : Place) (rest : List ℕ) (b : Block)
    → block_at section place rest ≡ Ok (Some b) → Found section place rest b
unfolding block_at
found section place rest b h = elim (taken (ltb (length rest) 12) (Ok None) _ (Ok (Some b)) h) [
  | inl short ↦ absurd (let e = short.1 in cc)
  | inr long ↦ found_by section place rest (order_of section rest) b refl long.1
]

-- whose order a block has
abbrev pub OrderIs : Section → List ℕ → Bool → Type 0
OrderIs section rest big =
    ((kind_of section rest ≢ 0x0a0d0d0a) × (section.big ≡ big))
    ⊎ ((kind_of section rest ≡ 0x0a0d0d0a) × (u32_at big 8 rest ≡ 0x1a2b3c4d))

pub order_tells : (section : Section) (rest : List ℕ) (big : Bool)
    → order_of section rest ≡ Some big → OrderIs section rest big
unfolding order_of
order_tells section rest big h =
    elim (eqb_tells (kind_of section rest) 0x0a0d0d0a) [
      | inr other ↦
          let e : Some section.big ≡ Some big = rw other.0 at h in
          inl (other.1, cc)
      | inl header ↦ elim (eqb_tells (u32_at false 8 rest) 0x1a2b3c4d) [
        | inl little ↦
            let e : Some false ≡ Some big = rw (header.0, little.0) at h in
            let is : false ≡ big = cc in
            inr (header.1, subst (λ o. u32_at o 8 rest ≡ 0x1a2b3c4d) is little.1)
        | inr not_little ↦ elim (eqb_tells (u32_at true 8 rest) 0x1a2b3c4d) [
          | inl large ↦
              let e : Some true ≡ Some big = rw (header.0, not_little.0, large.0) at h in
              let is : true ≡ big = cc in
              inr (header.1, subst (λ o. u32_at o 8 rest ≡ 0x1a2b3c4d) is large.1)
          | inr neither ↦ absurd (let e = rw (header.0, not_little.0, neither.0) at h in cc)
        ]
      ]
    ]

-- the type of a block, as it is written in the block's own order
same_kind : (o big : Bool) → field o 4 0x0a0d0d0a ≡ field big 4 0x0a0d0d0a
same_kind true true = refl
same_kind true false = refl
same_kind false true = refl
same_kind false false = refl

kind_field : (section : Section) (rest : List ℕ) (big : Bool) → OrderIs section rest big
    → field section.big 4 (kind_of section rest) ≡ field big 4 (kind_of section rest)
kind_field section rest big (inl other) = ap (λ o. field o 4 (kind_of section rest)) other.1
kind_field section rest big (inr header) = rw header.0 (same_kind section.big big)

-- the first word of a block, in its own order
pub first_word : (section : Section) (rest : List ℕ) (big : Bool) → OrderIs section rest big
    → 4 ≤ length rest → Bytes rest
    → rest ≡ field big 4 (kind_of section rest) ++ drop 4 rest
unfolding u32_at
first_word section rest big order whole small =
    word_of section.big rest 0 (omega (arith, whole)) small
    ∙ ap (λ l. l ++ drop 4 rest) (kind_field section rest big order)

-- a field of the body is a field of the block
inside : (big : Bool) (rest body after : List ℕ) (at : ℕ) → drop 8 rest ≡ body ++ after
    → at + 4 ≤ length body → u32_at big (8 + at) rest ≡ number_of big 4 (drop at body)
unfolding u32_at
inside big rest body after at behind whole =
    ap (number_of big 4) (sym (drop-drop at 8 rest) ∙ ap (drop at) behind
    ∙ drop-append-le at body after (omega (arith, whole)))
    ∙ number_of-append big 4 (drop at body) after (omega (arith, length-drop at body, whole))

inside_half : (big : Bool) (rest body after : List ℕ) (at : ℕ) → drop 8 rest ≡ body ++ after
    → at + 2 ≤ length body → u16_at big (8 + at) rest ≡ number_of big 2 (drop at body)
unfolding u16_at
inside_half big rest body after at behind whole =
    ap (number_of big 2) (sym (drop-drop at 8 rest) ∙ ap (drop at) behind
    ∙ drop-append-le at body after (omega (arith, whole)))
    ∙ number_of-append big 2 (drop at body) after (omega (arith, length-drop at body, whole))

-- a block's body
record HasBody (section : Section) (rest body after : List ℕ) (len : ℕ) : Type 0 where
  pub behind : drop 8 rest ≡ body ++ after
  pub size : length body + 12 ≡ len
  pub small : Bytes body

-- a word of the body, and what is behind it
word_in : {section : Section} {rest body after : List ℕ} {len : ℕ} (big : Bool) (at : ℕ)
    → HasBody section rest body after len → at + 16 ≤ len
    → drop at body ≡ field big 4 (u32_at big (8 + at) rest) ++ drop (at + 4) body
word_in {rest = rest} {body = body} {after = after} big at h room =
    let whole : at + 4 ≤ length body = omega (arith, h.size, room) in
    word_of big body at whole h.small
    ∙ ap (λ n. field big 4 n ++ drop (at + 4) body) (sym (inside big rest body after at h.behind
    whole))

half_in : {section : Section} {rest body after : List ℕ} {len : ℕ} (big : Bool) (at : ℕ)
    → HasBody section rest body after len → at + 14 ≤ len
    → drop at body ≡ field big 2 (u16_at big (8 + at) rest) ++ drop (at + 2) body
half_in {rest = rest} {body = body} {after = after} big at h room =
    let whole : at + 2 ≤ length body = omega (arith, h.size, room) in
    half_of big body at whole h.small
    ∙ ap (λ n. field big 2 n ++ drop (at + 2) body) (sym (inside_half big rest body after at
    h.behind whole))

-- what a length that fits its type tells
pub length_tells : (kind len : ℕ) → is_len kind len ≡ true → (len % 4 ≡ 0) × (least_len kind ≤ len)
length_tells kind len h = elim (eqb_tells (len % 4) 0) [
  | inl a ↦ (a.1, leb-true (least_len kind) len (rw a.0 at h))
  | inr a ↦ absurd (let e = rw a.0 at h in cc)
]

linked_tells : (place : Place) (id : ℕ) (o : Option Interface) (i : Interface)
    → linked place id o ≡ Ok i → (o ≡ Some i) × (i.link ≡ 1)
linked_tells place id None i h = absurd (cc)
linked_tells place id (Some j) i h = elim (eqb_tells j.link 1) [
  | inl a ↦
      let e : Ok j ≡ Ok i = rw a.0 at h in
      let same : j ≡ i = cc in
      (ap Some same, ap (λ x. x.link) (sym same) ∙ a.1)
  | inr a ↦ absurd (let e = rw a.0 at h in cc)
]

ethernet_tells : (section : Section) (place : Place) (id : ℕ) (i : Interface)
    → ethernet_of section place id ≡ Ok i
    → (place.packets < 262144) × (slice_get section.interfaces id ≡ Some i) × (i.link ≡ 1)
unfolding ethernet_of
ethernet_tells section place id i h =
    let a = passed (leb 262144 place.packets) _ _ i h in
    let b = linked_tells place id (slice_get section.interfaces id) i a.1 in
    (leb-false 262144 place.packets a.0, b.0, b.1)

framed_tells : (place : Place) (len at : ℕ) (r : PcapRecord) (c : Content)
    → framed place len at r ≡ Ok c
    → (r.len ≤ 262144) × (at + padded r.len + 4 ≤ len) × (content.Packet r ≡ c)
unfolding framed
framed_tells place len at r c h =
    let a = passed (ltb 262144 r.len) _ _ c h in
    let b = passed (ltb len (at + padded r.len + 4)) _ (Ok (content.Packet r)) c a.1 in (
      ltb-false 262144 r.len a.0,
      ltb-false len (at + padded r.len + 4) b.0,
      let e = b.1 in cc,
    )

section_says : (section : Section) (place : Place) (big : Bool) (rest body after : List ℕ)
    (len : ℕ) (c : Content) → HasBody section rest body after len → 28 ≤ len
    → u32_at big 8 rest ≡ 0x1a2b3c4d
    → content_at section place 0x0a0d0d0a big len rest ≡ Ok c
    → Says section place big 0x0a0d0d0a body c
unfolding content_at
section_says section place big rest body after len c h least magic told =
    elim (eqb_tells (u16_at big 12 rest) 1) [
      | inl version ↦
          let e : Ok (content.Section big) ≡ Ok c = rw version.0 at told in
          let is : content.Section big ≡ c = cc in
          let first = word_in {section = section} big 0 h (omega (arith, least)) in
          let second = half_in {section = section} big 4 h (omega (arith, least)) in
          subst (Says section place big 0x0a0d0d0a body) is (
            refl,
            refl,
            record {
              minor = take 2 (drop 6 body);
              section_len = take 8 (drop 8 body);
              options = drop 16 body;
              written = first ∙ ap (λ n. field big 4 n ++ drop 4 body) magic
                  ∙ ap (λ l. field big 4 0x1a2b3c4d ++ l) (second
                  ∙ ap (λ n. field big 2 n ++ drop 6 body) version.1
                  ∙ ap (λ l. field big 2 1 ++ l) (next_piece 6 2 body
                  ∙ ap (λ l. take 2 (drop 6 body) ++ l) (next_piece 8 8 body)));
              minor_size = omega (
                arith,
                h.size,
                least,
                length-take 2 (drop 6 body),
                length-drop 6 body,
              );
              len_size = omega (
                arith,
                h.size,
                least,
                length-take 8 (drop 8 body),
                length-drop 8 body,
              );
            },
          )
      | inr version ↦ absurd (let e = rw version.0 at told in cc)
    ]

interface_says : (section : Section) (place : Place) (rest body after : List ℕ) (len : ℕ)
    → Bytes rest → HasBody section rest body after len → 20 ≤ len
    → IsInterface section.big
    (record { link = u16_at section.big 8 rest; snap = u32_at section.big 12 rest }) body
interface_says section place rest body after len small h least =
    let big = section.big in
    let link = half_in {section = section} big 0 h (omega (arith, least)) in
    let snap = word_in {section = section} big 4 h (omega (arith, least)) in
    record {
      reserved = take 2 (drop 2 body);
      options = drop 8 body;
      written = link ∙ ap (λ l. field big 2 (u16_at big 8 rest) ++ l) (next_piece 2 2 body
          ∙ ap (λ l. take 2 (drop 2 body) ++ l) snap);
      reserved_size = omega (
        arith,
        h.size,
        least,
        length-take 2 (drop 2 body),
        length-drop 2 body,
      );
      link_fits = half_fits big 8 rest small;
      snap_fits = word_fits big 12 rest small;
    }

-- a frame of a body, its padding, and what is behind
record HasFrame (body : List ℕ) (at len : ℕ) : Type 0 where
  pub frame : List ℕ
  pub padding : List ℕ
  pub more : List ℕ
  pub joined : drop at body ≡ frame ++ (padding ++ more)
  pub size : length frame ≡ len
  pub pads : Pads padding frame

has_frame : (body : List ℕ) (at len : ℕ) → at + padded len ≤ length body → HasFrame body at len
has_frame body at len room =
    let pad = padded len - len in
    let bounds : (len ≤ padded len) × (padded len ≤ len + 3) × (padded len % 4 ≡ 0) =
    (omega arith, omega arith, omega arith) in
    let frame = take len (drop at body) in
    let padding = take pad (drop (at + len) body) in
    let size : length frame ≡ len =
    omega (arith, room, bounds, length-take len (drop at body), length-drop at body) in
    let pad_size : length padding ≡ pad =
    omega (
      arith,
      room,
      bounds,
      length-take pad (drop (at + len) body),
      length-drop (at + len) body,
    ) in
    record {
      frame = frame;
      padding = padding;
      more = drop (at + len + pad) body;
      joined = next_piece at len body
          ∙ ap (λ l. frame ++ l) (next_piece (at + len) pad body);
      size = size;
      pads = (omega (arith, pad_size, bounds), omega (arith, size, pad_size, bounds));
    }

enhanced_says : (section : Section) (place : Place) (rest body after : List ℕ) (len : ℕ)
    (c : Content) → Bytes rest → HasBody section rest body after len → 32 ≤ len
    → enhanced section place len rest ≡ Ok c
    → Says section place section.big 6 body c
unfolding enhanced
enhanced_says section place rest body after len c small h least told =
    let big = section.big in
    let id = u32_at big 8 rest in
    let r : PcapRecord = record {
      sec = u32_at big 12 rest;
      frac = u32_at big 16 rest;
      start = place.start + 28;
      len = u32_at big 20 rest;
      orig = u32_at big 24 rest;
    } in
    let (i, is, next) = and_then_ok _ (ethernet_of section place id) c told in
    let (few, described, link) = ethernet_tells section place id i is in
    let (short, room, same) = framed_tells place len 28 r c next in
    let f = has_frame body 20 r.len (omega (arith, h.size, room)) in
    let w0 = word_in {section = section} big 0 h (omega (arith, least)) in
    let w1 = word_in {section = section} big 4 h (omega (arith, least)) in
    let w2 = word_in {section = section} big 8 h (omega (arith, least)) in
    let w3 = word_in {section = section} big 12 h (omega (arith, least)) in
    let w4 = word_in {section = section} big 16 h (omega (arith, least)) in
    let said : IsEnhanced section place r body = record {
      id = id;
      interface = i;
      frame = f.frame;
      padding = f.padding;
      options = f.more;
      written = w0 ∙ ap (λ l. field big 4 id ++ l) (w1
          ∙ ap (λ l. field big 4 r.sec ++ l) (w2
          ∙ ap (λ l. field big 4 r.frac ++ l) (w3
          ∙ ap (λ n. field big 4 n ++ drop 16 body) (sym f.size)
          ∙ ap (λ l. field big 4 (length f.frame) ++ l) (w4
          ∙ ap (λ l. field big 4 r.orig ++ l) f.joined))));
      packet = record {
        described = described;
        ethernet = link;
        few = few;
        small = rw f.size short;
        len = sym f.size;
        start = refl;
      };
      pads = f.pads;
      fits = (
        word_fits big 8 rest small,
        word_fits big 12 rest small,
        word_fits big 16 rest small,
        word_fits big 24 rest small,
      );
    } in
    subst (Says section place big 6 body) same (refl, inl (refl, said))

-- what an interface keeps of a packet is captured
kept_tells : (i : Interface) (orig : ℕ) → IsCaptured i.snap orig (kept i orig)
kept_tells i orig = elim (eqb_tells i.snap 0) [
  | inl a ↦
      let e : kept i orig ≡ orig = rw a.0 refl in
      rw e (record {
        most = omega arith;
        kept = λ some. absurd (omega (arith, a.1, some));
        all = λ less. absurd (omega (arith, less));
      })
  | inr a ↦
      let e : kept i orig ≡ min orig i.snap = rw a.0 refl in
      rw e (record {
        most = omega arith;
        kept = λ some. omega arith;
        all = λ less. (omega (arith, a.1), omega (arith, less));
      })
]

simple_says : (section : Section) (place : Place) (rest body after : List ℕ) (len : ℕ)
    (c : Content) → Bytes rest → HasBody section rest body after len → 16 ≤ len
    → simple section place len rest ≡ Ok c
    → Says section place section.big 3 body c
unfolding simple
simple_says section place rest body after len c small h least told =
    let big = section.big in
    let orig = u32_at big 8 rest in
    let (i, is, next) = and_then_ok _ (ethernet_of section place 0) c told in
    let r : PcapRecord = record {
      sec = 0;
      frac = 0;
      start = place.start + 12;
      len = kept i orig;
      orig = orig;
    } in
    let (few, described, link) = ethernet_tells section place 0 i is in
    let (short, room, same) = framed_tells place len 12 r c next in
    let f = has_frame body 4 r.len (omega (arith, h.size, room)) in
    let w0 = word_in {section = section} big 0 h (omega (arith, least)) in
    let said : IsSimple section place r body = record {
      interface = i;
      frame = f.frame;
      padding = f.padding;
      more = f.more;
      written = w0 ∙ ap (λ l. field big 4 orig ++ l) f.joined;
      packet = record {
        described = described;
        ethernet = link;
        few = few;
        small = rw f.size short;
        len = sym f.size;
        start = refl;
      };
      pads = f.pads;
      captured = rw f.size (kept_tells i orig);
      fits = word_fits big 8 rest small;
      second = refl;
      fraction = refl;
    } in
    subst (Says section place big 3 body) same (refl, inr (refl, said))

plain_says : (section : Section) (place : Place) (rest body after : List ℕ) (len kind : ℕ)
    (c : Content) → Bytes rest → HasBody section rest body after len → kind ≢ 0x0a0d0d0a
    → kind_of section rest ≡ kind → least_len kind ≤ len
    → content_at section place kind section.big len rest ≡ Ok c
    → Says section place section.big kind body c
unfolding content_at
plain_says section place rest body after len kind c small h other is least told =
    let big = section.big in
    let S = λ (k : ℕ). Says section place big k body c in
    elim (eqb_tells kind 0x0a0d0d0a) [
      | inl a ↦ absurd (other a.1)
      | inr a ↦ elim (eqb_tells kind 1) [
        | inl b ↦
            let i : Interface = record { link = u16_at big 8 rest; snap = u32_at big 12 rest } in
            let e : Ok (content.Interface i) ≡ Ok c = rw (a.0, b.0) at told in
            let same : content.Interface i ≡ c = cc in
            let least : 20 ≤ len = rw (a.0, b.0) at least in
            subst (Says section place big kind body) same
            (refl, b.1, interface_says section place rest body after len small h least)
        | inr b ↦ elim (eqb_tells kind 6) [
          | inl d ↦
              let e : enhanced section place len rest ≡ Ok c = rw (a.0, b.0, d.0) at told in
              let least : 32 ≤ len = rw (a.0, b.0, d.0) at least in
              subst S (sym d.1)
              (enhanced_says section place rest body after len c small h least e)
          | inr d ↦ elim (eqb_tells kind 3) [
            | inl f ↦
                let e : simple section place len rest ≡ Ok c =
                rw (a.0, b.0, d.0, f.0) at told in
                let least : 16 ≤ len = rw (a.0, b.0, d.0, f.0) at least in
                subst S (sym f.1)
                (simple_says section place rest body after len c small h least e)
            | inr f ↦
                let e : Ok content.Other ≡ Ok c = rw (a.0, b.0, d.0, f.0) at told in
                let same : content.Other ≡ c = cc in
                subst (Says section place big kind body) same (
                  refl,
                  record {
                    section = other;
                    interface = b.1;
                    simple = f.1;
                    enhanced = d.1;
                    fits = subst (λ n. n < 2 ^ 32) is (word_fits big 0 rest small);
                  },
                )
          ]
        ]
      ]
    ]

says_so : (section : Section) (place : Place) (big : Bool) (rest body after : List ℕ)
    (len : ℕ) (c : Content) → Bytes rest → HasBody section rest body after len
    → OrderIs section rest big → is_len (kind_of section rest) len ≡ true
    → content_at section place (kind_of section rest) big len rest ≡ Ok c
    → Says section place big (kind_of section rest) body c
says_so section place big rest body after len c small h (inr header) sized told =
    let least = (length_tells (kind_of section rest) len sized).1 in
    rw header.0 (section_says section place big rest body after len c h
    (rw header.0 at least) header.1 (rw header.0 at told))
says_so section place big rest body after len c small h (inl other) sized told =
    let least = (length_tells (kind_of section rest) len sized).1 in
    subst (λ o. Says section place o (kind_of section rest) body c) other.1
    (plain_says section place rest body after len (kind_of section rest) c small h other.0
    refl least (subst (λ o. content_at section place (kind_of section rest) o len rest ≡ Ok c)
    (sym other.1) told))

pub written_only : ReadsWrittenOnly
written_only section place rest b small h =
    let F = found section place rest b h in
    let big = F.big in
    let len = b.len in
    let kind = kind_of section rest in
    let least : 12 ≤ len = is_len_tells kind len F.sized in
    let body = take (len - 12) (drop 8 rest) in
    let more = drop len rest in
    let order = order_tells section rest big F.order in
    let k = field big 4 kind in
    let t = field big 4 len in
    let end : 8 + (len - 12) ≡ len - 4 = omega (arith, least) in
    let last : len - 4 + 4 ≡ len = omega (arith, least) in
    let behind : drop 8 rest ≡ body ++ drop (len - 4) rest = next_piece 8 (len - 12) rest
    ∙ ap (λ n. body ++ drop n rest) end in
    let size : length body + 12 ≡ len =
    omega (
      arith,
      least,
      F.whole,
      length-take (len - 12) (drop 8 rest),
      length-drop 8 rest,
    ) in
    let first : rest ≡ k ++ drop 4 rest = first_word section rest big order
    (omega (arith, least, F.whole)) small in
    let second : drop 4 rest ≡ t ++ drop 8 rest =
    word_of big rest 4 (omega (arith, least, F.whole)) small
    ∙ ap (λ n. field big 4 n ++ drop 8 rest) (number_is big rest 4 len F.total) in
    let third : drop (len - 4) rest ≡ t ++ more =
    word_of big rest (len - 4) (omega (arith, least, F.whole)) small
    ∙ ap (λ n. field big 4 n ++ drop (len - 4 + 4) rest) (number_is big rest (len - 4) len F.tail)
    ∙ ap (λ n. t ++ drop n rest) last in
    let joined : rest ≡ (k ++ (t ++ (body ++ t))) ++ more =
    first
    ∙ ap (λ l. k ++ l) second
    ∙ ap (λ l. k ++ (t ++ l)) behind
    ∙ ap (λ l. k ++ (t ++ (body ++ l))) third
    ∙ sym (append_assoc k (t ++ (body ++ t)) more
    ∙ ap (λ l. k ++ l) (append_assoc t (body ++ t) more)
    ∙ ap (λ l. k ++ (t ++ l)) (append_assoc body t more)) in
    let bytes : Bytes body = All-take (λ x. x < 256) (len - 12) (drop 8 rest)
    (All-drop (λ x. x < 256) 8 rest small) in
    let has : HasBody section rest body (drop (len - 4) rest) len =
    record { behind = behind; size = size; small = bytes } in
    let multiple = (length_tells kind len F.sized).0 in
    record {
      big = big;
      kind = kind;
      body = body;
      joined = joined
          ∙ ap (λ n. (k ++ (field big 4 n ++ (body ++ field big 4 n))) ++ more) (sym size);
      padded = omega (arith, size, multiple);
      len = sym size;
      small = subst (λ n. n < 2 ^ 32) F.total (word_fits big 4 rest small);
      says = says_so section place big rest body (drop (len - 4) rest) len b.content small has
          order F.sized F.told;
    }

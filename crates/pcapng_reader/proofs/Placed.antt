-- A whole block lies within the bytes at whose front it stands, and so does the frame of its
-- packet.
use Rattle.std.proofs.Common.{◌≡◌, ◌≤◌, ◌<◌, inl, inr, ℕ, ◌+◌, ◌%◌, Bool, true, false, not, leb}
use Rattle.std.proofs.Common.{ltb, eqb, List, length, Option, Some, None, Ok, refl, subst, arith}
use Rattle.std.proofs.lemmas.Bool.{ltb-false, leb-false, leb-true}
use Rattle.std.proofs.lemmas.Bool.Decides.{eqb_tells}
use Rattle.pcap_reader.specs.declared.record.PcapRecord.{PcapRecord}
use Rattle.pcapng_reader.specs.declared.section.Interface.{Interface}
use Rattle.pcapng_reader.specs.declared.section.Section.{Section}
use Rattle.pcapng_reader.specs.declared.place.Place.{Place}
use Rattle.pcapng_reader.specs.declared.block.Block.{Block}
use Rattle.pcapng_reader.specs.declared.content.Content.{Content}
use Rattle.pcapng_reader.specs.declared.content.Content.TheVariants as content
use Rattle.pcapng_reader.specs.Numbers.{u16_at, u32_at}
use Rattle.pcapng_reader.specs.Contents.{least_len, is_len, padded, ethernet_of, framed, enhanced}
use Rattle.pcapng_reader.specs.Contents.{simple, content_at}
use Rattle.pcapng_reader.specs.Blocks.{kind_of, order_of, total_len, tail_len, block_in, ordered}
use Rattle.pcapng_reader.specs.Blocks.{block_at}
use Rattle.pcapng_reader.specs.Readers.{HasRoom, BeginsBehind}
use Rattle.pcapng_reader.proofs.Checks.{taken, passed, and_then_ok}

-- a packet is not one too many, and its frame lies in its block
abbrev pub PacketFits : Place → ℕ → Content → Type 0
PacketFits place len (content.Section big) = Unit {0}
PacketFits place len (content.Interface interface) = Unit {0}
PacketFits place len (content.Packet r) = (place.packets < 262144)
    × (r.start + r.len ≤ place.start + len) × (place.start ≤ r.start) × (r.len ≤ 262144)
PacketFits place len content.Other = Unit {0}

pub record IsPlaced (place : Place) (rest : List ℕ) (b : Block) : Type 0 where
  pub least : 12 ≤ b.len
  pub whole : b.len ≤ length rest
  pub packet : PacketFits place b.len b.content

ethernet_few : (section : Section) (place : Place) (id : ℕ) (i : Interface)
    → ethernet_of section place id ≡ Ok i → place.packets < 262144
unfolding ethernet_of
ethernet_few section place id i h = leb-false 262144 place.packets
    (passed (leb 262144 place.packets) _ _ i h).0

framed_fits : (place : Place) (len at : ℕ) (r : PcapRecord) (c : Content) → place.packets < 262144
    → r.start ≡ place.start + at
    → framed place len at r ≡ Ok c → PacketFits place len c
unfolding framed
framed_fits place len at r c few here h =
    let a = passed (ltb 262144 r.len) _ _ c h in
    let b = passed (ltb len (at + padded r.len + 4)) _ (Ok (content.Packet r)) c a.1 in
    let room : at + padded r.len + 4 ≤ len = ltb-false len (at + padded r.len + 4) b.0 in
    let is : content.Packet r ≡ c = let e = b.1 in cc in
    let small : r.len ≤ 262144 = ltb-false 262144 r.len a.0 in
    subst (PacketFits place len) is (few, omega arith, omega arith, small)

enhanced_fits : (section : Section) (place : Place) (len : ℕ) (block : List ℕ) (c : Content)
    → enhanced section place len block ≡ Ok c → PacketFits place len c
unfolding enhanced
enhanced_fits section place len block c h =
    let (i, is, told) = and_then_ok _ (ethernet_of section place (u32_at section.big 8 block)) c
    h in
    framed_fits place len 28 _ c (ethernet_few section place (u32_at section.big 8 block) i is) refl
    told

simple_fits : (section : Section) (place : Place) (len : ℕ) (block : List ℕ) (c : Content)
    → simple section place len block ≡ Ok c → PacketFits place len c
unfolding simple
simple_fits section place len block c h =
    let (i, is, told) = and_then_ok _ (ethernet_of section place 0) c h in
    framed_fits place len 12 _ c (ethernet_few section place 0 i is) refl told

content_fits : (section : Section) (place : Place) (kind : ℕ) (big : Bool) (len : ℕ)
    (block : List ℕ) (c : Content)
    → content_at section place kind big len block ≡ Ok c → PacketFits place len c
unfolding content_at
content_fits section place kind big len block c h =
    let P = PacketFits place len in
    elim (taken (eqb kind 0x0a0d0d0a) _ _ (Ok c) h) [
      | inl a ↦
          let major = taken (eqb (u16_at big 12 block) 1) _ _ (Ok c) a.1 in
          elim major [
            | inl b ↦ let is : content.Section big ≡ c = let e = b.1 in cc in subst P is tt
            | inr b ↦ absurd (let e = b.1 in cc)
          ]
      | inr a ↦ elim (taken (eqb kind 1) _ _ (Ok c) a.1) [
        | inl b ↦
            let is : content.Interface (record {
              link = u16_at big 8 block;
              snap = u32_at big 12 block;
            }) ≡ c = let e = b.1 in cc in
            subst P is tt
        | inr b ↦ elim (taken (eqb kind 6) _ _ (Ok c) b.1) [
          | inl d ↦ enhanced_fits section place len block c d.1
          | inr d ↦ elim (taken (eqb kind 3) _ _ (Ok c) d.1) [
            | inl e ↦ simple_fits section place len block c e.1
            | inr e ↦ let is : content.Other ≡ c = let e = e.1 in cc in subst P is tt
          ]
        ]
      ]
    ]

least_is_12 : (kind : ℕ) → 12 ≤ least_len kind
least_is_12 kind =
    elim (eqb_tells kind 0x0a0d0d0a) [
      | inl a ↦ rw a.0 (omega arith)
      | inr a ↦ elim (eqb_tells kind 1) [
        | inl b ↦ rw (a.0, b.0) (omega arith)
        | inr b ↦ elim (eqb_tells kind 6) [
          | inl d ↦ rw (a.0, b.0, d.0) (omega arith)
          | inr d ↦ elim (eqb_tells kind 3) [
            | inl e ↦ rw (a.0, b.0, d.0, e.0) (omega arith)
            | inr e ↦ rw (a.0, b.0, d.0, e.0) (omega arith)
          ]
        ]
      ]
    ]

-- what a length that fits its type tells
pub is_len_tells : (kind len : ℕ) → is_len kind len ≡ true → 12 ≤ len
is_len_tells kind len h = elim (eqb_tells (len % 4) 0) [
  | inl a ↦
      let least : least_len kind ≤ len = leb-true (least_len kind) len (rw a.0 at h) in
      let low = least_is_12 kind in
      omega arith
  | inr a ↦ absurd (let e = rw a.0 at h in cc)
]

pub not_false : (t : Bool) → not t ≡ false → t ≡ true
not_false true h = refl
not_false false h = absurd (cc)

block_placed : (section : Section) (place : Place) (big : Bool) (rest : List ℕ) (b : Block)
    → block_in section place big rest ≡ Ok (Some b) → IsPlaced place rest b
unfolding block_in
block_placed section place big rest b h =
    let len = total_len big rest in
    let kind = kind_of section rest in
    let sized = passed (not (is_len kind len)) _ _ (Some b) h in
    elim (taken (ltb (length rest) len) (Ok None) _ (Ok (Some b)) sized.1) [
      | inl short ↦ absurd (let e = short.1 in cc)
      | inr long ↦
          let tail = passed (not (eqb (tail_len big rest) len)) _ _ (Some b) long.1 in
          let (c, is, told) = and_then_ok _ (content_at section place kind big len rest)
          (Some b) tail.1 in
          let same : (let whole : Block = record { len = len; content = c } in whole) ≡ b =
          let e = told in cc in
          subst (IsPlaced place rest) same (record {
            least = is_len_tells kind len (not_false (is_len kind len) sized.0);
            whole = ltb-false (length rest) len long.0;
            packet = content_fits section place kind big len rest c is;
          })
    ]

ordered_placed : (section : Section) (place : Place) (rest : List ℕ) (o : Option Bool) (b : Block)
    → ordered section place rest o ≡ Ok (Some b) → IsPlaced place rest b
ordered_placed section place rest None b h = absurd (cc)
ordered_placed section place rest (Some big) b h = block_placed section place big rest b h

pub placed : (section : Section) (place : Place) (rest : List ℕ) (b : Block)
    → block_at section place rest ≡ Ok (Some b) → IsPlaced place rest b
unfolding block_at
placed section place rest b h = elim (taken (ltb (length rest) 12) (Ok None) _ (Ok (Some b)) h) [
  | inl short ↦ absurd (let e = short.1 in cc)
  | inr long ↦ ordered_placed section place rest (order_of section rest) b long.1
]

-- what the walker needs of a block
begins_in : (place : Place) (size : ℕ) (c : Content) → PacketFits place size c
    → BeginsBehind place c
begins_in place size (content.Section big) fits = tt
begins_in place size (content.Interface i) fits = tt
begins_in place size (content.Packet r) fits = fits.2
begins_in place size content.Other fits = tt

pub begins_behind : (section : Section) (place : Place) (window : List ℕ) (b : Block)
    → block_at section place window ≡ Ok (Some b) → BeginsBehind place b.content
begins_behind section place window b is =
    begins_in place b.len b.content (placed section place window b is).packet

room_in : (place : Place) (size : ℕ) (c : Content) → PacketFits place size c → HasRoom place c
room_in place size (content.Section big) fits = tt
room_in place size (content.Interface i) fits = tt
room_in place size (content.Packet r) fits = omega (arith, fits.0)
room_in place size content.Other fits = tt

pub has_room : (section : Section) (place : Place) (window : List ℕ) (b : Block)
    → block_at section place window ≡ Ok (Some b) → HasRoom place b.content
has_room section place window b is =
    room_in place b.len b.content (placed section place window b is).packet

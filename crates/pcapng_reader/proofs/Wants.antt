-- No check of a block answers want of memory.
use Rattle.std.proofs.Common.{◌≡◌, inl, inr, ℕ, Bool, leb, ltb, eqb, not, ◌+◌, List, [], ◌∷◌}
use Rattle.std.proofs.Common.{length, drop, Option, Some, None, Result, Ok, Err}
use Rattle.std.specs.Prelude.{slice_get}
use Rattle.pcap_reader.specs.declared.record.PcapRecord.{PcapRecord}
use Rattle.pcapng_reader.specs.declared.section.Interface.{Interface}
use Rattle.pcapng_reader.specs.declared.section.Section.{Section}
use Rattle.pcapng_reader.specs.declared.place.Place.{Place}
use Rattle.pcapng_reader.specs.declared.block.Block.{Block}
use Rattle.pcapng_reader.specs.declared.fault.NgFault.{NgFault}
use Rattle.pcapng_reader.specs.declared.fault.NgFault.TheVariants as fault
use Rattle.pcapng_reader.specs.Numbers.{u16_at, u32_at}
use Rattle.pcapng_reader.specs.Contents.{is_len, padded, linked, ethernet_of, framed, enhanced}
use Rattle.pcapng_reader.specs.Contents.{simple, content_at}
use Rattle.pcapng_reader.specs.Blocks.{kind_of, order_of, total_len, tail_len, block_in, ordered}
use Rattle.pcapng_reader.specs.Blocks.{block_at}
use Rattle.pcapng_reader.specs.Captures.{no_section, file_start, section_behind, place_behind}
use Rattle.pcapng_reader.specs.Captures.{Reads}
use Rattle.pcapng_reader.specs.Laws.{IsNoWant}
use Rattle.pcapng_reader.proofs.Checks.{taken, and_then_err}

-- an answer that wants memory
abbrev Want : {X : Type 0} → Result X NgFault → Type 0
Want r = r ≡ Err fault.OutOfMemory

linked_wants : (place : Place) (id : ℕ) (i : Option Interface) → Want (linked place id i) → ⊥
linked_wants place id None h = absurd (cc)
linked_wants place id (Some i) h =
    elim (taken (eqb i.link 1) (Ok i) (Err (fault.BadNgLink place.block i.link))
    (Err fault.OutOfMemory) h) [
      | inl a ↦ absurd (let e = a.1 in cc)
      | inr a ↦ absurd (let e = a.1 in cc)
    ]

ethernet_wants : (section : Section) (place : Place) (id : ℕ) → Want (ethernet_of section place id)
    → ⊥
unfolding ethernet_of
ethernet_wants section place id h =
    elim (taken (leb 262144 place.packets) (Err fault.TooManyPackets) _ (Err fault.OutOfMemory) h) [
      | inl a ↦ absurd (let e = a.1 in cc)
      | inr a ↦ linked_wants place id (slice_get section.interfaces id) a.1
    ]

framed_wants : (place : Place) (len at : ℕ) (r : PcapRecord) → Want (framed place len at r) → ⊥
unfolding framed
framed_wants place len at r h =
    elim (taken (ltb 262144 r.len) (Err (fault.RecordTooLong place.packets r.len)) _
    (Err fault.OutOfMemory) h) [
      | inl a ↦ absurd (let e = a.1 in cc)
      | inr a ↦ elim (taken (ltb len (at + padded r.len + 4)) (Err (fault.BadBlock place.block len))
          _
          (Err fault.OutOfMemory) a.1) [
            | inl b ↦ absurd (let e = b.1 in cc)
            | inr b ↦ absurd (let e = b.1 in cc)
          ]
    ]

enhanced_wants : (section : Section) (place : Place) (len : ℕ) (block : List ℕ)
    → Want (enhanced section place len block) → ⊥
unfolding enhanced
enhanced_wants section place len block h =
    elim (and_then_err _ (ethernet_of section place (u32_at section.big 8 block)) fault.OutOfMemory
    h) [
      | inl first ↦ ethernet_wants section place (u32_at section.big 8 block) first
      | inr second ↦ framed_wants place len 28 _ second.2
    ]

simple_wants : (section : Section) (place : Place) (len : ℕ) (block : List ℕ)
    → Want (simple section place len block) → ⊥
unfolding simple
simple_wants section place len block h =
    elim (and_then_err _ (ethernet_of section place 0) fault.OutOfMemory h) [
      | inl first ↦ ethernet_wants section place 0 first
      | inr second ↦ framed_wants place len 12 _ second.2
    ]

content_wants : (section : Section) (place : Place) (kind : ℕ) (big : Bool) (len : ℕ)
    (block : List ℕ) → Want (content_at section place kind big len block) → ⊥
unfolding content_at
content_wants section place kind big len block h =
    elim (taken (eqb kind 0x0a0d0d0a) _ _ (Err fault.OutOfMemory) h) [
      | inl a ↦ elim (taken (eqb (u16_at big 12 block) 1) _
          (Err (fault.BadMajor (u16_at big 12 block)))
          (Err fault.OutOfMemory) a.1) [
            | inl b ↦ absurd (let e = b.1 in cc)
            | inr b ↦ absurd (let e = b.1 in cc)
          ]
      | inr a ↦ elim (taken (eqb kind 1) _ _ (Err fault.OutOfMemory) a.1) [
        | inl b ↦ absurd (let e = b.1 in cc)
        | inr b ↦ elim (taken (eqb kind 6) _ _ (Err fault.OutOfMemory) b.1) [
          | inl d ↦ enhanced_wants section place len block d.1
          | inr d ↦ elim (taken (eqb kind 3) _ _ (Err fault.OutOfMemory) d.1) [
            | inl e ↦ simple_wants section place len block e.1
            | inr e ↦ absurd (let f = e.1 in cc)
          ]
        ]
      ]
    ]

block_wants : (section : Section) (place : Place) (big : Bool) (rest : List ℕ)
    → Want (block_in section place big rest) → ⊥
unfolding block_in
block_wants section place big rest h =
    let len = total_len big rest in
    let kind = kind_of section rest in
    elim (taken (not (is_len kind len)) (Err (fault.BadBlock place.block len)) _
    (Err fault.OutOfMemory) h) [
      | inl a ↦ absurd (let e = a.1 in cc)
      | inr a ↦ elim (taken (ltb (length rest) len) (Ok None) _ (Err fault.OutOfMemory) a.1) [
        | inl b ↦ absurd (let e = b.1 in cc)
        | inr b ↦ elim (taken (not (eqb (tail_len big rest) len))
            (Err (fault.BadTail place.block (tail_len big rest))) _ (Err fault.OutOfMemory) b.1) [
              | inl d ↦ absurd (let e = d.1 in cc)
              | inr d ↦ elim (and_then_err _ (content_at section place kind big len rest)
                  fault.OutOfMemory d.1) [
                    | inl first ↦ content_wants section place kind big len rest first
                    | inr second ↦ absurd (let e = second.2 in cc)
                  ]
            ]
      ]
    ]

ordered_wants : (section : Section) (place : Place) (rest : List ℕ) (o : Option Bool)
    → Want (ordered section place rest o) → ⊥
ordered_wants section place rest None h = absurd (cc)
ordered_wants section place rest (Some big) h = block_wants section place big rest h

at_wants : (section : Section) (place : Place) (rest : List ℕ) → Want (block_at section place rest)
    → ⊥
unfolding block_at
at_wants section place rest h =
    elim (taken (ltb (length rest) 12) (Ok None) _ (Err fault.OutOfMemory) h) [
      | inl a ↦ absurd (let e = a.1 in cc)
      | inr a ↦ ordered_wants section place rest (order_of section rest) a.1
    ]

reads_wants : (section : Section) (place : Place) (bytes : List ℕ) (blocks : List Block)
    → Reads section place bytes blocks (Err fault.OutOfMemory) → ⊥
reads_wants section place bytes [] h = at_wants section place bytes h.1
reads_wants section place bytes (b ∷ bs) h =
    reads_wants (section_behind section b.content) (place_behind place b) (drop b.len bytes) bs h.2

pub is_no_want : IsNoWant
is_no_want bytes h = reads_wants no_section file_start bytes h.blocks h.read

-- The content of a complete block by its type, or its fault, after the pcapng file format
-- (draft-ietf-opsawg-pcapng, section 4). `place` says what comes before the block.
use Rattle.std.specs.Prelude.{ℕ, ◌+◌, ◌*◌, ◌/◌, ◌%◌, min, Bool, ◌&&◌, ◌==◌, nat_le, nat_lt}
use Rattle.std.specs.Prelude.{if◌then◌else◌, List, Option, Some, None, Result, Ok, Err, slice_get}
use Rattle.steer_base.specs.declared.limits.TheConstants.{MAX_PACKETS}
use Rattle.pcap_reader.specs.declared.limits.TheConstants.{LINKTYPE_ETHERNET, MAX_FRAME}
use Rattle.pcap_reader.specs.declared.record.PcapRecord.{PcapRecord}
use Rattle.pcapng_reader.specs.declared.section.Interface.{Interface}
use Rattle.pcapng_reader.specs.declared.section.Section.{Section}
use Rattle.pcapng_reader.specs.declared.place.Place.{Place}
use Rattle.pcapng_reader.specs.declared.content.Content.{Content}
use Rattle.pcapng_reader.specs.declared.content.Content.TheVariants as content
use Rattle.pcapng_reader.specs.declared.fault.NgFault.{NgFault}
use Rattle.pcapng_reader.specs.declared.fault.NgFault.TheVariants as fault
use Rattle.pcapng_reader.specs.Numbers.{u16_at, u32_at}

-- the least number of bytes of a block of this type: a section header, an interface, an enhanced
-- packet, a simple packet, or any other type
abbrev pub least_len : ℕ → ℕ
least_len kind =
    if kind == 0x0a0d0d0a then 28
    else if kind == 1 then 20
    else if kind == 6 then 32
    else if kind == 3 then 16
    else 12

-- whether a block of this type may have this total length
abbrev pub is_len : ℕ → ℕ → Bool
is_len kind len = len % 4 == 0 && nat_le (least_len kind) len

-- a length padded to a multiple of four
abbrev pub padded : ℕ → ℕ
padded len = (len + 3) / 4 * 4

-- goes on with the value of a result, or keeps its fault
abbrev pub and_then : {T U : Type 0} → (T → Result U NgFault) → Result T NgFault → Result U NgFault
and_then f (Ok x) = f x
and_then f (Err e) = Err e

-- the interface with this number that a packet names, or the fault if the section has not described
-- it or its link type is not Ethernet
abbrev pub linked : Place → ℕ → Option Interface → Result Interface NgFault
linked place id None = Err (fault.BadInterface place.block id)
linked place id (Some interface) =
    if interface.link == LINKTYPE_ETHERNET then Ok interface else Err
    (fault.BadNgLink place.block interface.link)

-- the Ethernet interface with this number that a packet names, or the fault; a packet after
-- `MAX_PACKETS` others is a fault too
unfoldable pub ethernet_of : Section → Place → ℕ → Result Interface NgFault
ethernet_of section place id =
    if nat_le MAX_PACKETS place.packets then Err fault.TooManyPackets
    else linked place id (slice_get section.interfaces id)

-- the packet of a block of this length whose frame begins at offset `at` of the block, or the fault
-- if the frame is too long or does not fit, padded, before the block's second length of 4 bytes
unfoldable pub framed : Place → ℕ → ℕ → PcapRecord → Result Content NgFault
framed place len at r =
    if nat_lt MAX_FRAME r.len then Err (fault.RecordTooLong place.packets r.len)
    else if nat_lt len (at + padded r.len + 4) then Err (fault.BadBlock place.block len)
    else Ok (content.Packet r)

-- the content of an enhanced packet block: interface, two words of time, captured and original
-- length, frame
unfoldable pub enhanced : Section → Place → ℕ → List ℕ → Result Content NgFault
enhanced section place len block =
    let r : PcapRecord = record {
      sec = u32_at section.big 12 block;
      frac = u32_at section.big 16 block;
      start = place.start + 28;
      len = u32_at section.big 20 block;
      orig = u32_at section.big 24 block;
    } in
    and_then (λ _. framed place len 28 r) (ethernet_of section place (u32_at section.big 8 block))

-- the number of bytes of a frame that an interface keeps: a snap length of 0 keeps all
abbrev pub kept : Interface → ℕ → ℕ
kept interface orig = if interface.snap == 0 then orig else min orig interface.snap

-- the content of a simple packet block, of the section's first interface: original length, frame
unfoldable pub simple : Section → Place → ℕ → List ℕ → Result Content NgFault
simple section place len block =
    let orig : ℕ = u32_at section.big 8 block in
    let r : Interface → PcapRecord = λ interface.
    record {
      sec = 0;
      frac = 0;
      start = place.start + 12;
      len = kept interface orig;
      orig = orig;
    } in
    and_then (λ interface. framed place len 12 (r interface)) (ethernet_of section place 0)

-- the content of a complete block of this type, byte order and length, or its fault
unfoldable pub content_at : Section → Place → ℕ → Bool → ℕ → List ℕ → Result Content NgFault
content_at section place kind big len block =
    if kind == 0x0a0d0d0a then
    (if u16_at big 12 block == 1 then Ok (content.Section big)
    else Err (fault.BadMajor (u16_at big 12 block)))
    else if kind == 1 then
    Ok (content.Interface (record { link = u16_at big 8 block; snap = u32_at big 12 block }))
    else if kind == 6 then enhanced section place len block
    else if kind == 3 then simple section place len block
    else Ok content.Other

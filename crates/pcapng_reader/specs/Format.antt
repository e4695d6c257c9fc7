-- A block as a writer of a pcapng file puts it together, and what it says: pieces that follow one
-- another, after the pcapng file format (draft-ietf-opsawg-pcapng, sections 3.1 and 4.1 to 4.4).
-- Nothing here takes bytes apart.
use Rattle.std.specs.Prelude.{◌≡◌, ◌≢◌, ◌≤◌, ◌<◌, ◌⊎◌, ℕ, ◌+◌, ◌%◌, ◌^◌, Bool, true, false, Some}
use Rattle.std.specs.Prelude.{List, ◌++◌, length, slice_get}
use Rattle.byteorder.specs.Endian.{big_bytes, little_bytes}
use Rattle.steer_base.specs.declared.limits.TheConstants.{MAX_PACKETS}
use Rattle.pcap_reader.specs.declared.limits.TheConstants.{LINKTYPE_ETHERNET, MAX_FRAME}
use Rattle.pcap_reader.specs.declared.record.PcapRecord.{PcapRecord}
use Rattle.pcapng_reader.specs.declared.section.Interface.{Interface}
use Rattle.pcapng_reader.specs.declared.section.Section.{Section}
use Rattle.pcapng_reader.specs.declared.place.Place.{Place}
use Rattle.pcapng_reader.specs.declared.block.Block.{Block}
use Rattle.pcapng_reader.specs.declared.content.Content.{Content}
use Rattle.pcapng_reader.specs.declared.content.Content.TheVariants as content
use Rattle.pcapng_reader.specs.Contents.{least_len}

-- a number as a field of this many bytes, big-endian if `true`
abbrev pub field : Bool → ℕ → ℕ → List ℕ
field true = big_bytes
field false = little_bytes

-- the bytes of a block: its type, its total length, its body, its total length again
abbrev pub block_bytes : Bool → ℕ → List ℕ → List ℕ
block_bytes big kind body =
    field big 4 kind
    ++ (field big 4 (length body + 12) ++ (body ++ field big 4 (length body + 12)))

-- the body of a section header: the byte-order magic, major version 1, the minor version, the
-- length of the section, options
pub record IsSectionHeader (big : Bool) (body : List ℕ) : Type 0 where
  pub minor : List ℕ
  pub section_len : List ℕ
  pub options : List ℕ
  pub written : body
      ≡ field big 4 0x1a2b3c4d ++ (field big 2 1 ++ (minor ++ (section_len ++ options)))
  pub minor_size : length minor ≡ 2
  pub len_size : length section_len ≡ 8

-- the body of an interface description: link type, two bytes of no meaning, snap length, options
pub record IsInterface (big : Bool) (interface : Interface) (body : List ℕ) : Type 0 where
  pub reserved : List ℕ
  pub options : List ℕ
  pub written : body
      ≡ field big 2 interface.link ++ (reserved ++ (field big 4 interface.snap ++ options))
  pub reserved_size : length reserved ≡ 2
  pub link_fits : interface.link < 2 ^ 16
  pub snap_fits : interface.snap < 2 ^ 32

-- a packet that can be a record of a capture: its section has described the interface, which is
-- Ethernet; the frame is not too long and begins at this offset of the block; the file has not too
-- many packets before it
pub record IsPacket (section : Section) (place : Place) (id : ℕ) (interface : Interface) (at : ℕ)
    (frame : List ℕ) (r : PcapRecord) : Type 0 where
  pub described : slice_get section.interfaces id ≡ Some interface
  pub ethernet : interface.link ≡ LINKTYPE_ETHERNET
  pub few : place.packets < MAX_PACKETS
  pub small : length frame ≤ MAX_FRAME
  pub len : r.len ≡ length frame
  pub start : r.start ≡ place.start + at

-- these bytes pad a frame to a multiple of four bytes
abbrev pub Pads : List ℕ → List ℕ → Type 0
Pads padding frame = (length padding < 4) × ((length frame + length padding) % 4 ≡ 0)

-- the body of an enhanced packet: interface, the two words of the time, captured length, original
-- length, frame, padding, options. The frame begins 8 + 20 bytes after the beginning of the block
pub record IsEnhanced (section : Section) (place : Place) (r : PcapRecord) (body : List ℕ)
    : Type 0 where
  pub id : ℕ
  pub interface : Interface
  pub frame : List ℕ
  pub padding : List ℕ
  pub options : List ℕ
  pub written : body
      ≡ field section.big 4 id ++ (field section.big 4 r.sec ++ (field section.big 4 r.frac
      ++ (field section.big 4 (length frame) ++ (field section.big 4 r.orig
      ++ (frame ++ (padding ++ options))))))
  pub packet : IsPacket section place id interface 28 frame r
  pub pads : Pads padding frame
  pub fits : (id < 2 ^ 32) × (r.sec < 2 ^ 32) × (r.frac < 2 ^ 32) × (r.orig < 2 ^ 32)

-- of a packet of this original length, this many bytes are captured: all, or as many as the
-- interface's snap length if that is less and not 0
pub record IsCaptured (snap orig len : ℕ) : Type 0 where
  pub most : len ≤ orig
  pub kept : 0 < snap → len ≤ snap
  pub all : len < orig → (0 < snap) × (len ≡ snap)

-- the body of a simple packet, of the section's first interface: original length, frame, padding.
-- It has no time. The frame begins 8 + 4 bytes after the beginning of the block
pub record IsSimple (section : Section) (place : Place) (r : PcapRecord) (body : List ℕ)
    : Type 0 where
  pub interface : Interface
  pub frame : List ℕ
  pub padding : List ℕ
  pub more : List ℕ
  pub written : body ≡ field section.big 4 r.orig ++ (frame ++ (padding ++ more))
  pub packet : IsPacket section place 0 interface 12 frame r
  pub pads : Pads padding frame
  pub captured : IsCaptured interface.snap r.orig (length frame)
  pub fits : r.orig < 2 ^ 32
  pub second : r.sec ≡ 0
  pub fraction : r.frac ≡ 0

-- a type of blocks that a reader skips: none of the four whose bodies are above
pub record IsSkipped (kind : ℕ) : Type 0 where
  pub section : kind ≢ 0x0a0d0d0a
  pub interface : kind ≢ 1
  pub simple : kind ≢ 3
  pub enhanced : kind ≢ 6
  pub fits : kind < 2 ^ 32

-- a block of this type, byte order and body says this. A section header announces its own byte
-- order, every other block is in its section's
abbrev pub Says : Section → Place → Bool → ℕ → List ℕ → Content → Type 0
Says section place big kind body (content.Section order) =
    (order ≡ big) × (kind ≡ 0x0a0d0d0a) × IsSectionHeader big body
Says section place big kind body (content.Interface interface) =
    (section.big ≡ big) × (kind ≡ 1) × IsInterface big interface body
Says section place big kind body (content.Packet r) =
    (section.big ≡ big)
    × (((kind ≡ 6) × IsEnhanced section place r body)
    ⊎ ((kind ≡ 3) × IsSimple section place r body))
Says section place big kind body content.Other = (section.big ≡ big) × IsSkipped kind

-- bytes are this block, and then more
pub record IsWritten (section : Section) (place : Place) (bytes : List ℕ) (b : Block)
    (more : List ℕ) : Type 0 where
  pub big : Bool
  pub kind : ℕ
  pub body : List ℕ
  pub joined : bytes ≡ block_bytes big kind body ++ more
  pub padded : length body % 4 ≡ 0
  pub len : b.len ≡ length body + 12
  pub small : b.len < 2 ^ 32
  pub says : Says section place big kind body b.content

-- a block of this type, with this after its total length, is in this byte order: a section header's
-- magic announces its own, every other block is in its section's
abbrev pub IsInOrder : Section → Bool → ℕ → List ℕ → Type 0
IsInOrder section big kind more =
    ((kind ≡ 0x0a0d0d0a) × (after : List ℕ) × (more ≡ field big 4 0x1a2b3c4d ++ after))
    ⊎ ((kind ≢ 0x0a0d0d0a) × (section.big ≡ big))

-- the beginning of a block whose end is missing: its type, its total length, which is one that the
-- type may have, and less than the rest of it
pub record IsBegun (section : Section) (bytes : List ℕ) : Type 0 where
  pub big : Bool
  pub kind : ℕ
  pub total : ℕ
  pub more : List ℕ
  pub joined : bytes ≡ field big 4 kind ++ (field big 4 total ++ more)
  pub order : IsInOrder section big kind more
  pub multiple : total % 4 ≡ 0
  pub least : least_len kind ≤ total
  pub short : length bytes < total
  pub fits : (kind < 2 ^ 32) × (total < 2 ^ 32)

-- the end of a file truncates a block: these bytes are fewer than the shortest block has, or the
-- beginning of a longer one
abbrev pub IsTruncated : Section → List ℕ → Type 0
IsTruncated section bytes = (length bytes < 12) ⊎ IsBegun section bytes

-- The capture of a pcapng file's bytes, or its one fault, as a relation over the blocks of the
-- file.
use Rattle.std.specs.Prelude.{◌≡◌, ◌<◌, ℕ, ◌+◌, Bool, false, List, [], ◌∷◌, ◌++◌, length, take}
use Rattle.std.specs.Prelude.{drop, Option, Some, None, Result, Ok, Err}
use Rattle.std.specs.List.{flat_map}
use Rattle.pcap_reader.specs.declared.record.PcapRecord.{PcapRecord}
use Rattle.pcap_reader.specs.declared.capture.Capture.{Capture}
use Rattle.pcapng_reader.specs.declared.section.Section.{Section}
use Rattle.pcapng_reader.specs.declared.place.Place.{Place}
use Rattle.pcapng_reader.specs.declared.block.Block.{Block}
use Rattle.pcapng_reader.specs.declared.content.Content.{Content}
use Rattle.pcapng_reader.specs.declared.content.Content.TheVariants as content
use Rattle.pcapng_reader.specs.declared.fault.NgFault.{NgFault}
use Rattle.pcapng_reader.specs.Blocks.{block_at}

-- the section before the first block: there is none yet
abbrev pub no_section : Section
no_section = record { big = false; interfaces = [] }

-- the place of the first block
abbrev pub file_start : Place
file_start = record { block = 0; packets = 0; start = 0 }

-- the packets of a block, none or one
abbrev pub packets_in : Content → List PcapRecord
packets_in (content.Section big) = []
packets_in (content.Interface interface) = []
packets_in (content.Packet r) = r ∷ []
packets_in content.Other = []

-- the section after a block: a section header removes the interfaces, an interface is added
abbrev pub section_behind : Section → Content → Section
section_behind section (content.Section big) = record { big = big; interfaces = [] }
section_behind section (content.Interface interface) =
    record { big = section.big; interfaces = section.interfaces ++ interface ∷ [] }
section_behind section (content.Packet r) = section
section_behind section content.Other = section

-- the place after a block
abbrev pub place_behind : Place → Block → Place
place_behind place b = record {
  block = place.block + 1;
  packets = place.packets + length (packets_in b.content);
  start = place.start + b.len;
}

-- how a file ends after its last complete block: with nothing, with a truncated block of this many
-- bytes, or with a fault
abbrev pub End : Type 0
End = Result (Option ℕ) NgFault

-- the rest of a file ends it like this
abbrev pub EndsWith : Section → Place → List ℕ → End → Type 0
EndsWith section place rest (Ok None) = rest ≡ []
EndsWith section place rest (Ok (Some cut)) =
    (0 < length rest) × (block_at section place rest ≡ Ok None) × (cut ≡ length rest)
EndsWith section place rest (Err e) = (0 < length rest) × (block_at section place rest ≡ Err e)

-- the bytes from this place on, in this section, are these blocks one after another, and then this
-- end
abbrev pub Reads : Section → Place → List ℕ → List Block → End → Type 0
Reads section place bytes [] end = EndsWith section place bytes end
Reads section place bytes (b ∷ bs) end =
    (0 < length bytes) × (block_at section place bytes ≡ Ok (Some b))
    × Reads (section_behind section b.content) (place_behind place b) (drop b.len bytes) bs end

-- the first four bytes of a file are the type of a section header
abbrev pub BeginsNg : List ℕ → Type 0
BeginsNg bytes = take 4 bytes ≡ 0x0a ∷ 0x0d ∷ 0x0d ∷ 0x0a ∷ []

-- the packets of some blocks, in their order
abbrev pub packets_of : List Block → List PcapRecord
packets_of blocks = flat_map (λ b. packets_in b.content) blocks

-- the byte order that a section header announces, big-endian if `true`
abbrev pub order_in : Content → Bool
order_in (content.Section big) = big
order_in (content.Interface interface) = false
order_in (content.Packet r) = false
order_in content.Other = false

-- the byte order that the first block announces
abbrev pub first_order : List Block → Bool
first_order [] = false
first_order (b ∷ bs) = order_in b.content

-- a file's bytes have this capture: the packets of its blocks, and the bytes of a truncated last
-- block
pub record HasNgCapture (bytes : List ℕ) (capture : Capture) : Type 0 where
  pub begins : BeginsNg bytes
  pub blocks : List Block
  pub read : Reads no_section file_start bytes blocks (Ok capture.cut)
  pub packets : capture.records ≡ packets_of blocks
  pub order : capture.big ≡ first_order blocks
  pub unit : capture.nano ≡ false

-- a file's bytes have this fault after some complete blocks; running out of memory is not a fault
pub record HasNgFault (bytes : List ℕ) (e : NgFault) : Type 0 where
  pub begins : BeginsNg bytes
  pub blocks : List Block
  pub read : Reads no_section file_start bytes blocks (Err e)

-- The capture of a file's bytes, after the pcap file format, version 2.4.
-- `number` reads the number in the first bytes of a list, in the byte order of the file.
use Rattle.std.specs.Prelude.{◌≡◌, ◌≤◌, ◌<◌, ℕ, ◌+◌, ◌%◌, ◌^◌, List, [], ◌∷◌, ◌++◌, length, take}
use Rattle.std.specs.Prelude.{drop, Bool, Option, Some, None}
use Rattle.steer_base.specs.declared.limits.TheConstants.{MAX_PACKETS}
use Rattle.pcap_reader.specs.declared.limits.TheConstants.{LINKTYPE_ETHERNET, MAX_FRAME}
use Rattle.pcap_reader.specs.declared.record.PcapRecord.{PcapRecord}
use Rattle.pcap_reader.specs.declared.capture.Capture.{Capture}
use Rattle.pcap_reader.specs.Numbers.{number_of, HasMagic}

-- a header has this major and minor version
abbrev pub IsVersion : (ℕ → List ℕ → ℕ) → List ℕ → ℕ → ℕ → Type 0
IsVersion number header major minor = (major ≡ number 2 (drop 4 header))
    × (minor ≡ number 2 (drop 6 header))

-- the field of a header with the link type in its low 16 bits
abbrev pub link_of : (ℕ → List ℕ → ℕ) → List ℕ → ℕ
link_of number header = number 4 (drop 20 header)

-- the length of a record's frame according to the record's header
abbrev pub frame_len : (ℕ → List ℕ → ℕ) → List ℕ → ℕ
frame_len number header = number 4 (drop 8 header)

-- a header has version 2.4 and link type Ethernet
pub record IsEthernet (number : ℕ → List ℕ → ℕ) (header : List ℕ) : Type 0 where
  pub version : IsVersion number header 2 4
  pub link : link_of number header % 2 ^ 16 ≡ LINKTYPE_ETHERNET

-- a complete record: 16 bytes, and then a frame of the length that they announce
pub record IsWhole (number : ℕ → List ℕ → ℕ) (header frame : List ℕ) : Type 0 where
  pub header_size : length header ≡ 16
  pub frame_size : length frame ≡ frame_len number header
  pub small : frame_len number header ≤ MAX_FRAME

-- the content of a complete record that begins at offset `place` of the file
pub record IsRecord (number : ℕ → List ℕ → ℕ) (place : ℕ) (header frame : List ℕ)
    (r : PcapRecord) : Type 0 where
  pub whole : IsWhole number header frame
  pub seconds : r.sec ≡ number 4 header
  pub fraction : r.frac ≡ number 4 (drop 4 header)
  pub length_told : r.len ≡ frame_len number header
  pub original : r.orig ≡ number 4 (drop 12 header)
  pub frame_place : r.start ≡ place + 16

-- the bytes from offset `place` of the file on are these records one after another, and then the
-- rest
abbrev pub Joins : (ℕ → List ℕ → ℕ) → ℕ → List ℕ → List PcapRecord → List ℕ → Type 0
Joins number place bytes [] rest = bytes ≡ rest
Joins number place bytes (r ∷ rs) rest =
    (header : List ℕ) × (frame : List ℕ) × (more : List ℕ) × (bytes ≡ header ++ (frame ++ more))
    × IsRecord number place header frame r × Joins number (place + (16 + r.len)) more rs rest

-- these bytes begin with no complete record
abbrev pub BeginsNoRecord : (ℕ → List ℕ → ℕ) → List ℕ → Type 0
BeginsNoRecord number rest =
    (header frame more : List ℕ) → rest ≡ header ++ (frame ++ more) → IsWhole number header frame
    → ⊥

-- the beginning of a record that is truncated by the end of the file
pub record IsCut (number : ℕ → List ℕ → ℕ) (rest : List ℕ) : Type 0 where
  pub some : 0 < length rest
  pub no_record : BeginsNoRecord number rest
  pub small : 16 ≤ length rest → frame_len number (take 16 rest) ≤ MAX_FRAME

-- what follows `count` records: nothing, or a truncated record of this many bytes
abbrev pub EndsAfterRecords : (ℕ → List ℕ → ℕ) → ℕ → List ℕ → Option ℕ → Type 0
EndsAfterRecords number count rest None = rest ≡ []
EndsAfterRecords number count rest (Some cut) = IsCut number rest × (cut ≡ length rest)
    × (count < MAX_PACKETS)

-- the bytes after the 24 of the header are these records, and then nothing or a truncated record
pub record HasRecords (number : ℕ → List ℕ → ℕ) (body : List ℕ) (records : List PcapRecord)
    (cut : Option ℕ) : Type 0 where
  pub rest : List ℕ
  pub joined : Joins number 24 body records rest
  pub few : length records ≤ MAX_PACKETS
  pub end : EndsAfterRecords number (length records) rest cut

-- a file's bytes are a header of 24 bytes, whose magic number announces the byte order and the unit
-- of time, and a body
pub record Opens (bytes : List ℕ) (big nano : Bool) (header body : List ℕ) : Type 0 where
  pub joined : bytes ≡ header ++ body
  pub whole : length header ≡ 24
  pub magic : HasMagic big nano header

-- a file's bytes have this capture
pub record HasCapture (bytes : List ℕ) (capture : Capture) : Type 0 where
  pub header : List ℕ
  pub body : List ℕ
  pub opens : Opens bytes capture.big capture.nano header body
  pub ethernet : IsEthernet (number_of capture.big) header
  pub records : HasRecords (number_of capture.big) body capture.records capture.cut

-- the frame of a record, among the bytes of its file
abbrev pub frame_of : List ℕ → PcapRecord → List ℕ
frame_of bytes r = take r.len (drop r.start bytes)

-- the frame of a record is within the bytes of its file
abbrev pub FrameIsWithin : List ℕ → PcapRecord → Type 0
FrameIsWithin bytes r = r.start + r.len ≤ length bytes

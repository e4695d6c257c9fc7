-- The one fault of a file's bytes that have no capture.
use Rattle.std.specs.Prelude.{◌≡◌, ◌≤◌, ◌<◌, ◌⊎◌, ℕ, ◌%◌, ◌^◌, List, length, take, Bool}
use Rattle.byteorder.specs.Endian.{little_number}
use Rattle.steer_base.specs.declared.limits.TheConstants.{MAX_PACKETS}
use Rattle.pcap_reader.specs.declared.limits.TheConstants.{LINKTYPE_ETHERNET, MAX_FRAME}
use Rattle.pcap_reader.specs.declared.record.PcapRecord.{PcapRecord}
use Rattle.pcap_reader.specs.declared.fault.CaptureFault.{CaptureFault}
use Rattle.pcap_reader.specs.declared.fault.CaptureFault.TheVariants as fault
use Rattle.pcap_reader.specs.Numbers.{number_of, HasMagic}
use Rattle.pcap_reader.specs.Captures.{IsVersion, link_of, frame_len, IsEthernet, Joins, Opens}

-- a header has the wrong version, or else a link type other than Ethernet
abbrev pub HeaderHasFault : (ℕ → List ℕ → ℕ) → List ℕ → CaptureFault → Type 0
HeaderHasFault number header (fault.BadVersion major minor) =
    IsVersion number header major minor × (IsVersion number header 2 4 → ⊥)
HeaderHasFault number header (fault.BadLink link) =
    IsVersion number header 2 4 × (link ≡ link_of number header)
    × (link % 2 ^ 16 ≡ LINKTYPE_ETHERNET → ⊥)
HeaderHasFault number header _ = ⊥

-- these bytes begin with a complete record header that announces this frame length, which is too
-- long
pub record TellsTooLong (number : ℕ → List ℕ → ℕ) (rest : List ℕ) (len : ℕ) : Type 0 where
  pub whole : 16 ≤ length rest
  pub told : len ≡ frame_len number (take 16 rest)
  pub long : MAX_FRAME < len

-- after some complete records comes one that is too long, or bytes follow the most records that a
-- capture may have
abbrev pub RecordsHaveFault : (ℕ → List ℕ → ℕ) → List ℕ → CaptureFault → Type 0
RecordsHaveFault number body (fault.RecordTooLong at len) =
    (records : List PcapRecord) × (rest : List ℕ) × Joins number 24 body records rest
    × (at ≡ length records) × (at < MAX_PACKETS) × TellsTooLong number rest len
RecordsHaveFault number body fault.TooManyPackets =
    (records : List PcapRecord) × (rest : List ℕ) × Joins number 24 body records rest
    × (length records ≡ MAX_PACKETS) × (0 < length rest)
RecordsHaveFault number body _ = ⊥

-- the fault of the header, or else of the records after it
abbrev pub PartsHaveFault : (ℕ → List ℕ → ℕ) → List ℕ → List ℕ → CaptureFault → Type 0
PartsHaveFault number header body fault =
    HeaderHasFault number header fault ⊎ (IsEthernet number header
    × RecordsHaveFault number body fault)

-- the fault of bytes with a complete header whose magic number is known
pub record OpensWithFault (bytes : List ℕ) (fault : CaptureFault) : Type 0 where
  pub big : Bool
  pub nano : Bool
  pub header : List ℕ
  pub body : List ℕ
  pub opens : Opens bytes big nano header body
  pub parts : PartsHaveFault (number_of big) header body fault

-- a file's bytes have this fault, the first that applies; running out of memory is not a fault of
-- bytes
abbrev pub HasFault : List ℕ → CaptureFault → Type 0
HasFault bytes (fault.ShortHeader len) = (len ≡ length bytes) × (len < 24)
HasFault bytes (fault.BadMagic magic) =
    (24 ≤ length bytes) × (magic ≡ little_number 4 bytes)
    × ((big nano : Bool) → HasMagic big nano bytes → ⊥)
HasFault bytes fault.OutOfMemory = ⊥
HasFault bytes fault = OpensWithFault bytes fault

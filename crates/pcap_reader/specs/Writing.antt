-- The bytes of a capture that is written: little-endian, with microseconds, of Ethernet frames.
use Rattle.std.specs.Prelude.{◌≤◌, ◌<◌, ℕ, ◌+◌, ◌^◌, false, List, [], ◌∷◌, ◌++◌, length, None}
use Rattle.std.specs.List.{flat_map}
use Rattle.byteorder.specs.Endian.{little_bytes}
use Rattle.pcap_reader.specs.declared.limits.TheConstants.{MAX_FRAME}
use Rattle.pcap_reader.specs.declared.record.PcapRecord.{PcapRecord}
use Rattle.pcap_reader.specs.declared.capture.Capture.{Capture}

-- the header of a written file: magic number, version 2.4, two unused fields, largest frame 65535,
-- and Ethernet
unfoldable pub header_bytes : List ℕ
header_bytes =
    0xd4 ∷ 0xc3 ∷ 0xb2 ∷ 0xa1 ∷ 2 ∷ 0 ∷ 4 ∷ 0 ∷ 0 ∷ 0 ∷ 0 ∷ 0 ∷ 0 ∷ 0 ∷ 0 ∷ 0 ∷ 0xff ∷ 0xff ∷ 0 ∷ 0
    ∷ 1 ∷ 0 ∷ 0 ∷ 0 ∷ []

-- the 16 bytes before a written frame of this length
unfoldable pub record_header : (sec frac len : ℕ) → List ℕ
record_header sec frac len = ((little_bytes 4 sec ++ little_bytes 4 frac) ++ little_bytes 4 len)
    ++ little_bytes 4 len

-- a packet to be written: its time and its frame
pub record Packet : Type 0 where
  pub sec : ℕ
  pub frac : ℕ
  pub frame : List ℕ

-- the numbers of a packet fit into the fields of a record
pub record CanBeWritten (p : Packet) : Type 0 where
  pub sec : p.sec < 2 ^ 32
  pub frac : p.frac < 2 ^ 32
  pub frame : length p.frame ≤ MAX_FRAME

-- the bytes of the record of a packet
abbrev pub packet_bytes : Packet → List ℕ
packet_bytes p = record_header p.sec p.frac (length p.frame) ++ p.frame

-- the bytes of a file of packets: the header, and then each packet
abbrev pub capture_bytes : List Packet → List ℕ
capture_bytes packets = header_bytes ++ flat_map packet_bytes packets

-- the records of packets written from offset `place` of the file on
abbrev pub records_from : ℕ → List Packet → List PcapRecord
records_from place [] = []
records_from place (p ∷ ps) =
    record {
      sec = p.sec;
      frac = p.frac;
      start = place + 16;
      len = length p.frame;
      orig = length p.frame;
    }
    ∷ records_from (place + (16 + length p.frame)) ps

-- the capture of a file of packets
abbrev pub capture_of : List Packet → Capture
capture_of packets = record {
  big = false;
  nano = false;
  records = records_from 24 packets;
  cut = None;
}

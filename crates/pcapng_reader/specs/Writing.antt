-- The bytes of a capture that is written: one little-endian section with one interface of Ethernet
-- frames, and then enhanced packets at time 0.
use Rattle.std.specs.Prelude.{ℕ, ◌+◌, ◌-◌, false, List, [], ◌∷◌, ◌++◌, length, replicate, None}
use Rattle.std.specs.List.{flat_map}
use Rattle.byteorder.specs.Endian.{little_bytes}
use Rattle.pcap_reader.specs.declared.record.PcapRecord.{PcapRecord}
use Rattle.pcap_reader.specs.declared.capture.Capture.{Capture}
use Rattle.pcapng_reader.specs.Contents.{padded}

-- a section header of version 1.0 and unspecified length, and an interface that keeps `MAX_FRAME`
-- bytes of a frame
unfoldable pub section_bytes : List ℕ
section_bytes =
    0x0a ∷ 0x0d ∷ 0x0d ∷ 0x0a ∷ 28 ∷ 0 ∷ 0 ∷ 0 ∷ 0x4d ∷ 0x3c ∷ 0x2b ∷ 0x1a ∷ 1 ∷ 0 ∷ 0 ∷ 0
    ∷ 0xff ∷ 0xff ∷ 0xff ∷ 0xff ∷ 0xff ∷ 0xff ∷ 0xff ∷ 0xff ∷ 28 ∷ 0 ∷ 0 ∷ 0
    ∷ 1 ∷ 0 ∷ 0 ∷ 0 ∷ 20 ∷ 0 ∷ 0 ∷ 0 ∷ 1 ∷ 0 ∷ 0 ∷ 0 ∷ 0 ∷ 0 ∷ 4 ∷ 0 ∷ 20 ∷ 0 ∷ 0 ∷ 0 ∷ []

-- the total length of an enhanced packet with a frame of this length and no options
abbrev pub enhanced_len : ℕ → ℕ
enhanced_len len = 32 + padded len

-- the 28 bytes before a written frame of this length: type, total length, interface 0, time 0, both
-- lengths
unfoldable pub enhanced_header : ℕ → List ℕ
enhanced_header len =
    (((little_bytes 4 6 ++ little_bytes 4 (enhanced_len len)) ++ replicate 12 0)
    ++ little_bytes 4 len) ++ little_bytes 4 len

-- the bytes after a written frame of this length: the padding, and the total length again
abbrev pub enhanced_tail : ℕ → List ℕ
enhanced_tail len = replicate (padded len - len) 0 ++ little_bytes 4 (enhanced_len len)

-- the bytes of the enhanced packet block of a frame
abbrev pub enhanced_bytes : List ℕ → List ℕ
enhanced_bytes frame = (enhanced_header (length frame) ++ frame) ++ enhanced_tail (length frame)

-- the bytes of a file of frames: the section, and then each frame
abbrev pub ng_bytes : List (List ℕ) → List ℕ
ng_bytes frames = section_bytes ++ flat_map enhanced_bytes frames

-- the records of frames whose blocks are written from offset `place` of the file on
abbrev pub ng_records_from : ℕ → List (List ℕ) → List PcapRecord
ng_records_from place [] = []
ng_records_from place (f ∷ fs) =
    record { sec = 0; frac = 0; start = place + 28; len = length f; orig = length f }
    ∷ ng_records_from (place + enhanced_len (length f)) fs

-- the capture of a file of frames
abbrev pub ng_capture : List (List ℕ) → Capture
ng_capture frames =
    record { big = false; nano = false; records = ng_records_from 48 frames; cut = None }

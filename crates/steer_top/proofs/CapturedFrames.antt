-- The packets of a capture's records are those of its frames.
use Rattle.std.proofs.Common.{ℕ, All, Bool, false, List, [], ◌∷◌, ◌++◌, Ok, map}
use Rattle.std.proofs.Common.{append-nil, append_assoc, inl, inr, subst, sym}
use Rattle.pcap_reader.proofs.Rows.{within_result}
use Rattle.pcap_reader.specs.Captures.{FrameIsWithin, frame_of}
use Rattle.pcap_reader.specs.declared.capture.Capture.{Capture}
use Rattle.pcap_reader.specs.declared.record.PcapRecord.{PcapRecord}
use Rattle.pcapng_reader.proofs.Walk.{Walked, walked_more, walked_start}
use Rattle.pcapng_reader.specs.Captures.{End, Reads, file_start, no_section, packets_in, packets_of}
use Rattle.pcapng_reader.specs.Captures.{section_behind}
use Rattle.pcapng_reader.specs.declared.block.Block.{Block}
use Rattle.pcapng_reader.specs.declared.place.Place.{Place}
use Rattle.pcapng_reader.specs.declared.section.Section.{Section}
use Rattle.steer_model.proofs.Capture.RecordLemmas.{packets-of-frames}
use Rattle.steer_model.specs.Capture.Packets.{ArePackets, ArePacketsOfFrames}
use Rattle.steer_base.specs.declared.packet.Packet.{Packet}
use Rattle.steer_top.specs.Captures.{HasAnyCapture}

-- the frames before a walk's end are within the file, and so are those behind it
within_walk : (bytes : List ℕ) (section : Section) (place : Place) (records : List PcapRecord)
    (big : Bool) (rest : List ℕ) (blocks : List Block) (end : End)
    → Walked bytes section place records big rest → Reads section place rest blocks end
    → All (FrameIsWithin bytes) (records ++ packets_of blocks)
within_walk bytes section place records big rest [] end w reads =
    subst (All (FrameIsWithin bytes)) (sym (append-nil records)) w.within
within_walk bytes section place records big rest (b ∷ bs) end w (some, is, behind) =
    subst (All (FrameIsWithin bytes))
    (append_assoc records (packets_in b.content) (packets_of bs))
    (within_walk bytes (section_behind section b.content) _ _ _ _ bs end
    (walked_more bytes section place records big rest b w some is) behind)

-- each frame of a capture is within its bytes
pub frames-within : (bytes : List ℕ) (capture : Capture) → HasAnyCapture bytes capture
    → All (FrameIsWithin bytes) capture.records
frames-within bytes capture (inl has) =
    subst (All (FrameIsWithin bytes)) (sym has.packets)
    (within_walk bytes no_section file_start [] false bytes has.blocks _ (walked_start bytes)
    has.read)
frames-within bytes capture (inr (other, has)) = within_result bytes (Ok capture) has

-- the packets of a capture's frames are those of the capture
pub packets-captured : (key kinds : ℕ) (bytes : List ℕ) (capture : Capture)
    (packets : List Packet) → HasAnyCapture bytes capture
    → ArePacketsOfFrames key kinds (map (frame_of bytes) capture.records) packets
    → ArePackets key kinds bytes capture.records packets
packets-captured key kinds bytes capture packets has are =
    packets-of-frames key kinds bytes capture.records packets are (frames-within bytes capture has)

-- The packets of a capture's records are those of the records' frames.
use Rattle.std.proofs.Common.{ℕ, suc, ◌+◌, ◌-◌, ◌<◌, ◌≡◌, List, [], ◌∷◌, ◌++◌, Some, length, map}
use Rattle.std.proofs.Common.{take, drop, All, get_or, slice_get, ap, ◌∙◌, refl, sym, subst, arith}
use Rattle.std.proofs.Common.{length-drop}
use Rattle.std.proofs.Math.Seq.{take-suc, take-length}
use Rattle.std.proofs.lemmas.List.{get_or-map, length-map, length-take-le, map-append}
use Rattle.std.proofs.lemmas.List.Elements.{All-get_or}
use Rattle.std.proofs.lemmas.Option.{same_Some, slice_get-get_or, slice_get_within}
use Rattle.history.specs.Lists.{packet_at}
use Rattle.pcap_reader.specs.Captures.{FrameIsWithin, frame_of as frame_from}
use Rattle.pcap_reader.specs.declared.record.PcapRecord.{PcapRecord}
use Rattle.steer_base.specs.declared.packet.Packet.{Packet}
use Rattle.steer_model.specs.Capture.Packets.{ArePackets, ArePacketsOfFrames, IsOfFrame}
use Rattle.steer_model.specs.Capture.Packets.{IsOfRecord, frame_of}

-- the frames of the first n records
abbrev pub frames_before : List ℕ → List PcapRecord → ℕ → List (List ℕ)
frames_before bytes records n = map (frame_of bytes) (take n records)

pub frames-many : (bytes : List ℕ) (records : List PcapRecord) (n : ℕ) → n < length records
    → length (frames_before bytes records n) ≡ n
frames-many bytes records n within =
    length-map (take n records) (frame_of bytes)
    ∙ length-take-le n records (omega (arith, within))

pub frames-more : (bytes : List ℕ) (records : List PcapRecord) (n : ℕ) (d : PcapRecord)
    → n < length records
    → frames_before bytes records (n + 1)
    ≡ frames_before bytes records n ++ frame_of bytes (get_or records n d) ∷ []
frames-more bytes records n d within =
    let next : suc n ≡ n + 1 = omega arith in
    ap (frames_before bytes records) (sym next)
    ∙ ap (map (frame_of bytes)) (take-suc records n d within)
    ∙ map-append (frame_of bytes) (take n records) (get_or records n d ∷ [])

pub frames-all : (bytes : List ℕ) (records : List PcapRecord)
    → frames_before bytes records (length records) ≡ map (frame_of bytes) records
frames-all bytes records = ap (map (frame_of bytes)) (take-length records)

-- a frame within the bytes has the length that its record tells
frame-length : (bytes : List ℕ) (r : PcapRecord) → FrameIsWithin bytes r
    → length (frame_of bytes r) ≡ r.len
frame-length bytes r within =
    let size : (r.start + r.len) - r.start ≡ r.len = omega arith in
    length-take-le ((r.start + r.len) - r.start) _
    (omega (arith, within, length-drop r.start bytes)) ∙ size

pub packets-of-records : (key kinds : ℕ) (bytes : List ℕ) (records : List PcapRecord)
    (packets : List Packet)
    → ArePacketsOfFrames key kinds (map (frame_of bytes) records) packets
    → All (FrameIsWithin bytes) records
    → ArePackets key kinds bytes records packets
packets-of-records key kinds bytes records packets are within =
    record {
      many = are.many ∙ length-map records (frame_of bytes);
      each = each;
      numbered = are.numbered;
    }
  where
    each : (x : ℕ) (from : PcapRecord) → slice_get records x ≡ Some from
        → IsOfRecord key kinds bytes from (packet_at packets x)
    each x from is =
        let lt : x < length records = slice_get_within records x from is in
        let same : get_or records x from ≡ from =
        same_Some _ _ (sym (slice_get-get_or records x from lt) ∙ is) in
        let frame = get_or-map (frame_of bytes) records x from [] lt ∙ ap (frame_of bytes) same in
        let of = subst (λ f. IsOfFrame key kinds f (packet_at packets x)) frame
        (are.each x (omega (arith, lt, length-map records (frame_of bytes)))) in
        let here = subst (FrameIsWithin bytes) same
        (All-get_or (FrameIsWithin bytes) records x from lt within) in
        record {
          flow = of.flow;
          hash = of.hash;
          len = of.len ∙ frame-length bytes from here;
        }

-- the frame of a record, from its first byte to its last
same_frames : (bytes : List ℕ) (records : List PcapRecord)
    → map (frame_from bytes) records ≡ map (frame_of bytes) records
same_frames bytes [] = refl
same_frames bytes (r ∷ rs) =
    let size : r.len ≡ (r.start + r.len) - r.start = omega arith in
    ap (λ n. take n (drop r.start bytes) ∷ map (frame_from bytes) rs) size
    ∙ ap (λ l. frame_of bytes r ∷ l) (same_frames bytes rs)

-- the packets of the frames of records are those of the records
pub packets-of-frames : (key kinds : ℕ) (bytes : List ℕ) (records : List PcapRecord)
    (packets : List Packet)
    → ArePacketsOfFrames key kinds (map (frame_from bytes) records) packets
    → All (FrameIsWithin bytes) records
    → ArePackets key kinds bytes records packets
packets-of-frames key kinds bytes records packets are within =
    packets-of-records key kinds bytes records packets
    (subst (λ frames. ArePacketsOfFrames key kinds frames packets) (same_frames bytes records) are)
    within

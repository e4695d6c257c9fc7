-- What is written is read back.
use Rattle.std.proofs.Common.{◌≡◌, ◌<◌, ℕ, suc, ◌+◌, ◌^◌, List, [], ◌∷◌, ◌++◌, length, take, drop}
use Rattle.std.proofs.Common.{map, All, append-nil, append_assoc, length-append, refl, sym, ap, ◌∙◌}
use Rattle.std.proofs.Common.{arith}
use Rattle.std.proofs.lemmas.List.{take_at, drop_at}
use Rattle.std.proofs.lemmas.List.Elements.{All-head, All-tail}
use Rattle.std.specs.List.{flat_map}
use Rattle.byteorder.specs.Endian.{little_number, little_bytes}
use Rattle.byteorder.specs.Numbers.{little_number-reads_back}
use Rattle.pcap_reader.specs.Captures.{IsRecord, Joins, frame_of}
use Rattle.pcap_reader.specs.Writing.{header_bytes, record_header, Packet, CanBeWritten}
use Rattle.pcap_reader.specs.Writing.{packet_bytes, records_from}
use Rattle.pcap_reader.specs.Laws.{BeginsWithHeader, GrowsByPacket, ReadsBack, KeepsFrames}

length-record_header : (sec frac len : ℕ) → length (record_header sec frac len) ≡ 16
unfolding record_header
length-record_header sec frac len = refl

-- the record of a packet that was written
written_record : (place : ℕ) (p : Packet) → CanBeWritten p
    → IsRecord little_number place (record_header p.sec p.frac (length p.frame)) p.frame
    (record {
      sec = p.sec;
      frac = p.frac;
      start = place + 16;
      len = length p.frame;
      orig = length p.frame;
    })
unfolding record_header
written_record place p fits =
    let len = length p.frame in
    let lens = little_bytes 4 len in
    let len_fits : len < 256 ^ 4 = omega (arith, fits.frame) in
    let told : little_number 4 (lens ++ lens) ≡ len =
    little_number-reads_back 4 len lens len_fits in
    record {
      whole = record { header_size = refl; frame_size = sym told; small = rw told fits.frame };
      seconds = sym (little_number-reads_back 4 p.sec (little_bytes 4 p.frac
          ++ (lens ++ lens)) fits.sec);
      fraction = sym (little_number-reads_back 4 p.frac (lens ++ lens) fits.frac);
      length_told = sym told;
      original = sym (little_number-reads_back 4 len [] len_fits);
      frame_place = refl;
    }

joins_written : (place : ℕ) (packets : List Packet) → All CanBeWritten packets
    → Joins little_number place (flat_map packet_bytes packets) (records_from place packets) []
joins_written place [] fit = refl
joins_written place (p ∷ ps) fit =
    let header = record_header p.sec p.frac (length p.frame) in
    let more = flat_map packet_bytes ps in (
      header,
      p.frame,
      more,
      append_assoc header p.frame more,
      written_record place p (All-head CanBeWritten p ps fit),
      joins_written (place + (16 + length p.frame)) ps (All-tail CanBeWritten p ps fit),
    )

length-records_from : (place : ℕ) (packets : List Packet)
    → length (records_from place packets) ≡ length packets
length-records_from place [] = refl
length-records_from place (p ∷ ps) = ap suc (length-records_from (place + (16 + length p.frame)) ps)

pub reads_back : ReadsBack
unfolding header_bytes
reads_back packets fit few = record {
  header = header_bytes;
  body = flat_map packet_bytes packets;
  opens = record { joined = refl; whole = refl; magic = refl };
  ethernet = record { version = (refl, refl); link = refl };
  records = record {
    rest = [];
    joined = joins_written 24 packets fit;
    few = omega (arith, few, length-records_from 24 packets);
    end = refl;
  };
}

-- the frames behind the bytes that went before
frames_behind : (front : List ℕ) (place : ℕ) (packets : List Packet) → length front ≡ place
    → map (frame_of (front ++ flat_map packet_bytes packets)) (records_from place packets) ≡ map
    (λ p. p.frame) packets
frames_behind front place [] at = refl
frames_behind front place (p ∷ ps) at =
    let len = length p.frame in
    let header = record_header p.sec p.frac len in
    let more = flat_map packet_bytes ps in
    let bytes = front ++ ((header ++ p.frame) ++ more) in
    let next : map (frame_of ((front ++ (header ++ p.frame)) ++ more))
    (records_from (place + (16 + len)) ps) ≡ map (λ q. q.frame) ps =
    frames_behind (front ++ (header ++ p.frame)) (place + (16 + len)) ps
    (omega (
      arith,
      at,
      length-append front (header ++ p.frame),
      length-append header p.frame,
      length-record_header p.sec p.frac len,
    )) in
    let same : (front ++ (header ++ p.frame)) ++ more ≡ bytes =
    append_assoc front (header ++ p.frame) more in
    let pieces : bytes ≡ (front ++ header) ++ (p.frame ++ more) =
    ap (λ l. front ++ l) (append_assoc header p.frame more)
    ∙ sym (append_assoc front header (p.frame ++ more)) in
    let before : length (front ++ header) ≡ place + 16 =
    omega (arith, at, length-append front header, length-record_header p.sec p.frac len) in
    let first : take len (drop (place + 16) bytes) ≡ p.frame =
    ap (λ l. take len (drop (place + 16) l)) pieces
    ∙ ap (take len) (drop_at (front ++ header) (p.frame ++ more) (place + 16) before)
    ∙ take_at p.frame more len refl in
    let rest : map (frame_of bytes) (records_from (place + (16 + len)) ps) ≡ map (λ q. q.frame) ps =
    ap (λ l. map (frame_of l) (records_from (place + (16 + len)) ps)) (sym same) ∙ next in
    ap (λ x. x ∷ map (frame_of bytes) (records_from (place + (16 + len)) ps)) first
    ∙ ap (λ xs. p.frame ∷ xs) rest

pub keeps_frames : KeepsFrames
unfolding header_bytes
keeps_frames packets = frames_behind header_bytes 24 packets refl

pub begins_with_header : BeginsWithHeader
begins_with_header = append-nil header_bytes

flat_map-push : (packets : List Packet) (p : Packet) → flat_map packet_bytes (packets ++ p
    ∷ []) ≡ flat_map packet_bytes packets ++ packet_bytes p
flat_map-push [] p = append-nil (packet_bytes p)
flat_map-push (q ∷ qs) p =
    ap (λ l. packet_bytes q ++ l) (flat_map-push qs p) ∙ sym (append_assoc (packet_bytes q)
    (flat_map packet_bytes qs) (packet_bytes p))

pub grows_by_packet : GrowsByPacket
grows_by_packet packets p =
    ap (λ l. header_bytes ++ l) (flat_map-push packets p)
    ∙ sym (append_assoc header_bytes (flat_map packet_bytes packets) (packet_bytes p))

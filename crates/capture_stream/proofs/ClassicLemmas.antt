-- Records of a classic pcap file, before bytes that follow.
use Rattle.std.proofs.Common.{◌≡◌, ◌≤◌, ◌<◌, ◌+◌, ℕ, List, [], ◌∷◌, ◌++◌, length, take, drop}
use Rattle.std.proofs.Common.{map, All, Option, None, Some, length-append, length-drop, refl, sym}
use Rattle.std.proofs.Common.{ap, subst, ◌∙◌, arith, inr}
use Rattle.std.proofs.lemmas.List.{append_assoc, drop-drop, take-append-le, drop-append-le}
use Rattle.std.proofs.lemmas.List.{length-map, map-append}
use Rattle.std.proofs.lemmas.List.Elements.{All-head, All-tail}
use Rattle.steer_base.specs.declared.limits.TheConstants.{MAX_PACKETS}
use Rattle.pcap_reader.specs.declared.record.PcapRecord.{PcapRecord}
use Rattle.pcap_reader.specs.declared.fault.CaptureFault.TheVariants as fault
use Rattle.pcap_reader.specs.Numbers.{number_of}
use Rattle.pcap_reader.specs.Captures.{IsRecord, Joins, IsCut, EndsAfterRecords, frame_of}
use Rattle.pcap_reader.specs.Captures.{FrameIsWithin, IsEthernet, frame_len}
use Rattle.pcap_reader.specs.Faults.{TellsTooLong, RecordsHaveFault, OpensWithFault}
use Rattle.pcap_reader.specs.declared.fault.CaptureFault.{CaptureFault}
use Rattle.pcap_reader.proofs.Openings.{opens_here, opens_before}
use Rattle.pcap_reader.proofs.Pieces.{split_front}
use Rattle.pcap_reader.proofs.Rows.{joins_more, ends_within}
use Rattle.pcapng_reader.specs.Captures.{BeginsNg}
use Rattle.capture_stream.specs.Captures.{HasFrames}
use Rattle.capture_stream.specs.Walks.{cut_of}
use Rattle.capture_stream.specs.Classic.{PassedClassic}
use Rattle.capture_stream.specs.declared.classic.ClassicWalker.{ClassicWalker}

-- the same records are in all files that begin with these bytes
joins-append : (number : ℕ → List ℕ → ℕ) (place : ℕ) (bytes : List ℕ) (records : List PcapRecord)
    (rest more : List ℕ) → Joins number place bytes records rest
    → Joins number place (bytes ++ more) records (rest ++ more)
joins-append number place bytes [] rest more joined = ap (λ l. l ++ more) joined
joins-append number place bytes (r ∷ rs) rest more (header, frame, behind, is, one, joined) = (
  header,
  frame,
  behind ++ more,
  ap (λ l. l ++ more) is ∙ append_assoc header (frame ++ behind) more
      ∙ ap (λ l. header ++ l) (append_assoc frame behind more),
  one,
  joins-append number (place + (16 + r.len)) behind rs rest more joined,
)

-- and they have the same frames there
frame-append : (bytes more : List ℕ) (r : PcapRecord) → FrameIsWithin bytes r
    → frame_of (bytes ++ more) r ≡ frame_of bytes r
frame-append bytes more r within =
    ap (take r.len) (drop-append-le r.start bytes more (omega (arith, within)))
    ∙ take-append-le r.len (drop r.start bytes) more
    (omega (arith, within, length-drop r.start bytes))

frames-append : (bytes more : List ℕ) (records : List PcapRecord)
    → All (FrameIsWithin bytes) records
    → map (frame_of (bytes ++ more)) records ≡ map (frame_of bytes) records
frames-append bytes more [] within = refl
frames-append bytes more (r ∷ rs) within =
    ap (λ l. l ∷ map (frame_of (bytes ++ more)) rs)
    (frame-append bytes more r (All-head (FrameIsWithin bytes) r rs within))
    ∙ ap (λ l. frame_of bytes r ∷ l)
    (frames-append bytes more rs (All-tail (FrameIsWithin bytes) r rs within))

pub classic-append : (bytes more : List ℕ) → 24 ≤ length bytes → (BeginsNg bytes → ⊥)
    → BeginsNg (bytes ++ more) → ⊥
classic-append bytes more whole classic begins =
    classic (sym (take-append-le 4 bytes more (omega (arith, whole))) ∙ begins)

pub passed-append : (walker : ClassicWalker) (bytes more : List ℕ) (frames : List (List ℕ))
    (rest : List ℕ) → PassedClassic walker bytes frames rest
    → PassedClassic walker (bytes ++ more) frames (rest ++ more)
passed-append walker bytes more frames rest passed =
    let number = number_of walker.format.big in
    let within : All (FrameIsWithin bytes) passed.records =
    ends_within number 24 (length bytes) (drop 24 bytes) passed.records rest passed.joined
    (omega (arith, length-drop 24 bytes, passed.whole)) in
    record {
      classic = classic-append bytes more passed.whole passed.classic;
      whole = omega (arith, passed.whole, length-append bytes more);
      magic = take-append-le 4 bytes more (omega (arith, passed.whole)) ∙ passed.magic;
      ethernet = subst (IsEthernet number) (sym (take-append-le 24 bytes more passed.whole))
          passed.ethernet;
      records = passed.records;
      joined = subst (λ l. Joins number 24 l passed.records (rest ++ more))
          (sym (drop-append-le 24 bytes more passed.whole))
          (joins-append number 24 (drop 24 bytes) passed.records rest more passed.joined);
      frames_are = passed.frames_are ∙ sym (frames-append bytes more passed.records within);
      packets_are = passed.packets_are;
      few = passed.few;
      within = omega (arith, passed.within, length-append bytes more);
      rest_is = ap (λ l. l ++ more) passed.rest_is
          ∙ sym (drop-append-le walker.place bytes more passed.within);
    }

-- each record has one frame
frame-count : (walker : ClassicWalker) (bytes : List ℕ) (frames : List (List ℕ)) (rest : List ℕ)
    → (passed : PassedClassic walker bytes frames rest) → length frames ≡ length passed.records
frame-count walker bytes frames rest passed =
    ap length passed.frames_are ∙ length-map passed.records (frame_of bytes)

-- one record more was passed
pub passed-more : (walker : ClassicWalker) (bytes : List ℕ) (frames : List (List ℕ))
    (rest : List ℕ) (r : PcapRecord) → PassedClassic walker bytes frames rest
    → 16 + r.len ≤ length rest → walker.packets < MAX_PACKETS
    → IsRecord (number_of walker.format.big) walker.place (take 16 rest) (take r.len (drop 16 rest))
    r
    → (length frames < MAX_PACKETS) × PassedClassic (record {
      format = walker.format;
      place = walker.place + (16 + r.len);
      packets = walker.packets + 1;
    }) bytes (frames ++ take r.len (drop 16 rest) ∷ []) (drop (16 + r.len) rest)
passed-more walker bytes frames rest r passed fits few is =
    let number = number_of walker.format.big in
    let size : length rest ≡ length (drop walker.place bytes) = ap length passed.rest_is in
    let behind : drop r.len (drop 16 rest) ≡ drop (16 + r.len) rest = drop-drop r.len 16 rest in
    let pieces : rest ≡ take 16 rest ++ (take r.len (drop 16 rest) ++ drop (16 + r.len) rest) =
    split_front rest r.len ∙ ap (λ l. take 16 rest ++ (take r.len (drop 16 rest) ++ l)) behind in
    let places : walker.place + length rest ≡ 24 + length (drop 24 bytes) =
    omega (
      arith,
      size,
      length-drop walker.place bytes,
      length-drop 24 bytes,
      passed.within,
      passed.whole,
    ) in
    let frame = take r.len (drop 16 rest) in
    let frame_is : frame_of bytes r ≡ frame =
    ap (λ n. take r.len (drop n bytes)) is.frame_place
    ∙ ap (take r.len) (sym (drop-drop 16 walker.place bytes))
    ∙ ap (λ l. take r.len (drop 16 l)) (sym passed.rest_is) in (
      omega (arith, few, passed.packets_are, frame-count walker bytes frames rest passed),
      record {
        classic = passed.classic;
        whole = passed.whole;
        magic = passed.magic;
        ethernet = passed.ethernet;
        records = passed.records ++ r ∷ [];
        joined = joins_more number 24 walker.place (drop 24 bytes) passed.records rest
            (take 16 rest) frame (drop (16 + r.len) rest) r passed.joined places pieces is;
        frames_are = ap (λ l. l ++ frame ∷ []) passed.frames_are
            ∙ ap (λ l. map (frame_of bytes) passed.records ++ l ∷ []) (sym frame_is)
            ∙ sym (map-append (frame_of bytes) passed.records (r ∷ []));
        packets_are = omega (arith, passed.packets_are, length-append passed.records (r ∷ []));
        few = omega (arith, few, passed.packets_are, length-append passed.records (r ∷ []));
        within = omega (arith, size, fits, length-drop walker.place bytes, passed.within);
        rest_is = ap (drop (16 + r.len)) passed.rest_is ∙ drop-drop (16 + r.len) walker.place bytes;
      },
    )

-- the file ends here, with nothing or within a record
ends : (walker : ClassicWalker) (bytes : List ℕ) (frames : List (List ℕ)) (rest : List ℕ)
    (cut : Option ℕ) → PassedClassic walker bytes frames rest
    → EndsAfterRecords (number_of walker.format.big) walker.packets rest cut
    → HasFrames bytes frames cut
ends walker bytes frames rest cut passed end = record {
  capture = record {
    big = walker.format.big;
    nano = walker.format.nano;
    records = passed.records;
    cut = cut;
  };
  has = inr (
    passed.classic,
    record {
      header = take 24 bytes;
      body = drop 24 bytes;
      opens = opens_here bytes walker.format.big walker.format.nano passed.whole passed.magic;
      ethernet = passed.ethernet;
      records = record {
        rest = rest;
        joined = passed.joined;
        few = passed.few;
        end = subst (λ n. EndsAfterRecords (number_of walker.format.big) n rest cut)
            passed.packets_are end;
      };
    },
  );
  frames_are = passed.frames_are;
  cut_is = refl;
  few = omega (arith, passed.few, frame-count walker bytes frames rest passed);
}

pub ends-empty : (walker : ClassicWalker) (bytes : List ℕ) (frames : List (List ℕ)) (rest : List ℕ)
    → PassedClassic walker bytes frames rest → length rest ≡ 0
    → HasFrames bytes frames (cut_of rest)
ends-empty walker bytes frames [] passed empty = ends walker bytes frames [] None passed refl
ends-empty walker bytes frames (byte ∷ rest) passed empty = absurd (omega (arith, empty))

pub ends-cut : (walker : ClassicWalker) (bytes : List ℕ) (frames : List (List ℕ)) (rest : List ℕ)
    → PassedClassic walker bytes frames rest → IsCut (number_of walker.format.big) rest
    → walker.packets < MAX_PACKETS → HasFrames bytes frames (cut_of rest)
ends-cut walker bytes frames [] passed cut few = absurd (omega (arith, cut.some))
ends-cut walker bytes frames (byte ∷ rest) passed cut few =
    ends walker bytes frames (byte ∷ rest) (Some (length (byte ∷ rest))) passed (cut, refl, few)

-- a fault of the records is that of all files that begin with these bytes
opens-with : (walker : ClassicWalker) (bytes : List ℕ) (frames : List (List ℕ)) (rest : List ℕ)
    (more : List ℕ) (e : CaptureFault) → PassedClassic walker bytes frames rest
    → RecordsHaveFault (number_of walker.format.big) (drop 24 bytes ++ more) e
    → (BeginsNg (bytes ++ more) → ⊥) × OpensWithFault (bytes ++ more) e
opens-with walker bytes frames rest more e passed found = (
  classic-append bytes more passed.whole passed.classic,
  record {
    big = walker.format.big;
    nano = walker.format.nano;
    header = take 24 bytes;
    body = drop 24 bytes ++ more;
    opens = opens_before bytes more walker.format.big walker.format.nano passed.whole passed.magic;
    parts = inr (passed.ethernet, found);
  },
)

pub tells-many : (walker : ClassicWalker) (bytes : List ℕ) (frames : List (List ℕ)) (rest : List ℕ)
    (more : List ℕ) → PassedClassic walker bytes frames rest → 0 < length rest
    → MAX_PACKETS ≤ walker.packets
    → (BeginsNg (bytes ++ more) → ⊥) × OpensWithFault (bytes ++ more) fault.TooManyPackets
tells-many walker bytes frames rest more passed some many =
    let number = number_of walker.format.big in
    opens-with walker bytes frames rest more fault.TooManyPackets passed (
      passed.records,
      rest ++ more,
      joins-append number 24 (drop 24 bytes) passed.records rest more passed.joined,
      omega (arith, passed.few, many, passed.packets_are),
      omega (arith, some, length-append rest more),
    )

pub tells-long : (walker : ClassicWalker) (bytes : List ℕ) (frames : List (List ℕ)) (rest : List ℕ)
    (more : List ℕ) (len : ℕ) → PassedClassic walker bytes frames rest
    → walker.packets < MAX_PACKETS → TellsTooLong (number_of walker.format.big) rest len
    → (BeginsNg (bytes ++ more) → ⊥) × OpensWithFault (bytes ++ more) (fault.RecordTooLong
    walker.packets len)
tells-long walker bytes frames rest more len passed few long =
    let number = number_of walker.format.big in
    opens-with walker bytes frames rest more (fault.RecordTooLong walker.packets len) passed (
      passed.records,
      rest ++ more,
      joins-append number 24 (drop 24 bytes) passed.records rest more passed.joined,
      passed.packets_are,
      few,
      record {
        whole = omega (arith, long.whole, length-append rest more);
        told = long.told ∙ ap (frame_len number) (sym (take-append-le 16 rest more long.whole));
        long = long.long;
      },
    )

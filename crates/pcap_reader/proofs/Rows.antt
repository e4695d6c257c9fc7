-- Records one after another.
use Rattle.std.proofs.Common.{◌≡◌, ◌≤◌, ℕ, ◌+◌, List, [], ◌∷◌, ◌++◌, length, length-append, refl}
use Rattle.std.proofs.Common.{ap, subst, ◌∙◌, arith, All, Result, Ok, Err, IfOk}
use Rattle.std.proofs.lemmas.List.Elements.{All-nil, All-cons}
use Rattle.pcap_reader.specs.declared.record.PcapRecord.{PcapRecord}
use Rattle.pcap_reader.specs.Captures.{IsRecord, Joins, HasCapture, FrameIsWithin}
use Rattle.pcap_reader.specs.Numbers.{number_of}
use Rattle.pcap_reader.specs.declared.capture.Capture.{Capture}
use Rattle.pcap_reader.specs.declared.fault.CaptureFault.{CaptureFault}

-- the bytes of a record and of what follows
pub length_record : (number : ℕ → List ℕ → ℕ) (place : ℕ) (bytes header frame more : List ℕ)
    (r : PcapRecord) → bytes ≡ header ++ (frame ++ more)
    → IsRecord number place header frame r → length bytes ≡ 16 + r.len + length more
length_record number place bytes header frame more r is one =
    omega (
      arith,
      ap length is,
      length-append header (frame ++ more),
      length-append frame more,
      one.whole.header_size,
      one.whole.frame_size,
      one.length_told,
    )

-- one record more
pub joins_more : (number : ℕ → List ℕ → ℕ) (at place : ℕ) (bytes : List ℕ) (rs : List PcapRecord)
    (rest header frame more : List ℕ) (r : PcapRecord)
    → Joins number at bytes rs rest → place + length rest ≡ at + length bytes → rest ≡ header
    ++ (frame ++ more)
    → IsRecord number place header frame r → Joins number at bytes (rs ++ r ∷ []) more
joins_more number at place bytes [] rest header frame more r joined places is one =
    let here : place ≡ at = omega (arith, places, ap length joined) in
    (header, frame, more, joined ∙ is, subst (λ p. IsRecord number p header frame r) here one, refl)
joins_more number at place bytes (x ∷ xs) rest header frame more r
    (h, f, m, e, first, joined) places is one =
    let size = length_record number at bytes h f m x e first in (
      h,
      f,
      m,
      e,
      first,
      joins_more number (at + (16 + x.len)) place m xs rest header frame more r
          joined (omega (arith, places, size)) is one,
    )

-- each frame ends before the bytes do
pub ends_within : (number : ℕ → List ℕ → ℕ) (at end : ℕ) (bytes : List ℕ) (rs : List PcapRecord)
    (rest : List ℕ) → Joins number at bytes rs rest
    → at + length bytes ≡ end → All (λ r. r.start + r.len ≤ end) rs
ends_within number at end bytes [] rest joined places = All-nil (λ r. r.start + r.len ≤ end)
ends_within number at end bytes (x ∷ xs) rest (h, f, m, e, first, joined) places =
    let size = length_record number at bytes h f m x e first in
    All-cons (λ r. r.start + r.len ≤ end) x xs (omega (arith, size, places, first.frame_place))
    (ends_within number (at + (16 + x.len)) end m xs rest joined (omega (arith, places, size)))

-- each frame of a capture lies within its bytes
pub within_result : (bytes : List ℕ) (result : Result Capture CaptureFault) → IfOk result
    (HasCapture bytes) → IfOk result (λ capture. All (FrameIsWithin bytes) capture.records)
within_result bytes (Ok capture) h =
    let size : 24 + length h.body ≡ length bytes =
    omega (arith, ap length h.opens.joined, length-append h.header h.body, h.opens.whole) in
    ends_within (number_of capture.big) 24 (length bytes) h.body capture.records h.records.rest
    h.records.joined size
within_result bytes (Err f) h = tt

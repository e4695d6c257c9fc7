-- Bytes have one capture or one fault, and never two of these.
use Rattle.std.proofs.Common.{◌≡◌, ◌≢◌, ◌⊎◌, inl, inr, ℕ, Bool, false, List, length, Option, Result}
use Rattle.std.proofs.Common.{Ok, Err, MatchResult, IfOk, IfErr, IsErrAnd, refl, sym, ap, ◌∙◌}
use Rattle.std.proofs.Common.{arith}
use Rattle.pcap_reader.specs.declared.record.PcapRecord.{PcapRecord}
use Rattle.pcap_reader.specs.declared.capture.Capture.{Capture}
use Rattle.pcapng_reader.specs.declared.block.Block.{Block}
use Rattle.pcapng_reader.specs.declared.fault.NgFault.{NgFault}
use Rattle.pcapng_reader.specs.declared.fault.NgFault.TheVariants as fault
use Rattle.pcapng_reader.specs.Captures.{no_section, file_start, End, Reads, BeginsNg, packets_of}
use Rattle.pcapng_reader.specs.Captures.{first_order, HasNgCapture, HasNgFault}
use Rattle.pcapng_reader.specs.Laws.{HasOneNgCapture, HasOneNgFault, HasNotBothNg, HasOneOfBothNg}
use Rattle.pcapng_reader.proofs.Walk.{reads_once, reads_some}

pub one_capture : HasOneNgCapture
one_capture bytes a b of_a of_b =
    let one = reads_once no_section file_start bytes of_a.blocks of_b.blocks (Ok a.cut)
    (Ok b.cut) of_a.read of_b.read in
    let ends = one.1 in
    let cut : a.cut ≡ b.cut = cc in
    let big : a.big ≡ b.big = of_a.order ∙ ap first_order one.0 ∙ sym of_b.order in
    let nano : a.nano ≡ b.nano = of_a.unit ∙ sym of_b.unit in
    let records : a.records ≡ b.records = of_a.packets ∙ ap packets_of one.0 ∙ sym of_b.packets in
    let make : Bool → Bool → List PcapRecord → Option ℕ → Capture =
    λ e f g h. record { big = e; nano = f; records = g; cut = h } in
    let same : make a.big a.nano a.records a.cut ≡ make b.big b.nano b.records b.cut =
    rw (big, nano, records, cut) refl in
    same

pub one_fault : HasOneNgFault
one_fault bytes a b of_a of_b =
    let one = reads_once no_section file_start bytes of_a.blocks of_b.blocks (Err a)
    (Err b) of_a.read of_b.read in
    let ends = one.1 in
    cc

pub not_both : HasNotBothNg
not_both bytes capture e of_capture of_fault =
    let one = reads_once no_section file_start bytes of_capture.blocks of_fault.blocks
    (Ok capture.cut) (Err e) of_capture.read of_fault.read in
    let ends = one.1 in
    absurd (cc)

either : (bytes : List ℕ) (blocks : List Block) (end : End) → BeginsNg bytes
    → Reads no_section file_start bytes blocks end
    → ((capture : Capture) × HasNgCapture bytes capture) ⊎ ((e : NgFault) × HasNgFault bytes e)
either bytes blocks (Ok cut) begins reads =
    inl (
      record { big = first_order blocks; nano = false; records = packets_of blocks; cut = cut },
      record {
        begins = begins;
        blocks = blocks;
        read = reads;
        packets = refl;
        order = refl;
        unit = refl;
      },
    )
either bytes blocks (Err e) begins reads =
    inr (e, record { begins = begins; blocks = blocks; read = reads })

pub one_of_both : HasOneOfBothNg
one_of_both bytes begins =
    let (blocks, end, reads) = reads_some (length bytes) no_section file_start bytes
    (omega arith) in
    either bytes blocks end begins reads

-- want of memory, or a fault of the bytes
memory_or : (e : NgFault) → (e ≡ fault.OutOfMemory) ⊎ (e ≢ fault.OutOfMemory)
memory_or (fault.BadOrder magic) = inr (λ e. cc)
memory_or (fault.BadBlock block len) = inr (λ e. cc)
memory_or (fault.BadTail block len) = inr (λ e. cc)
memory_or (fault.BadMajor major) = inr (λ e. cc)
memory_or fault.TooManyPackets = inr (λ e. cc)
memory_or (fault.BadInterface block id) = inr (λ e. cc)
memory_or (fault.BadNgLink block link) = inr (λ e. cc)
memory_or (fault.RecordTooLong at len) = inr (λ e. cc)
memory_or fault.OutOfMemory = inl refl

-- a true result is that of the bytes, or want of memory
pub complete_result : (bytes : List ℕ) (result : Result Capture NgFault) → IfOk result
    (HasNgCapture bytes) → IfErr result (λ e. e ≢ fault.OutOfMemory → HasNgFault bytes e)
    → (capture : Capture) → HasNgCapture bytes capture → MatchResult result (λ c. c ≡ capture)
    (λ e. e ≡ fault.OutOfMemory)
complete_result bytes (Ok found) is_found is_fault capture h =
    one_capture bytes found capture is_found h
complete_result bytes (Err e) is_found is_fault capture h = elim (memory_or e) [
  | inl memory ↦ memory
  | inr numbered ↦ absurd (not_both bytes capture e h (is_fault numbered))
]

pub exact_result : (bytes : List ℕ) (result : Result Capture NgFault) → IfOk result
    (HasNgCapture bytes) → IfErr result (λ e. e ≢ fault.OutOfMemory → HasNgFault bytes e)
    → (f : NgFault) → HasNgFault bytes f → IsErrAnd result (λ e. (e ≡ f) ⊎ (e ≡ fault.OutOfMemory))
exact_result bytes (Ok found) is_found is_fault f h = absurd (not_both bytes found f is_found h)
exact_result bytes (Err e) is_found is_fault f h = elim (memory_or e) [
  | inl memory ↦ inr memory
  | inr numbered ↦ inl (one_fault bytes e f (is_fault numbered) h)
]

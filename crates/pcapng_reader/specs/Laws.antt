-- Lemmas about captures and faults.
use Rattle.std.specs.Prelude.{◌≡◌, ◌≤◌, ◌<◌, ◌⊎◌, ℕ, ◌+◌, ◌%◌, Bool, Some, None, Ok, List, [], ◌∷◌}
use Rattle.std.specs.Prelude.{◌++◌, length, drop, map, All}
use Rattle.steer_base.specs.declared.limits.TheConstants.{MAX_PACKETS}
use Rattle.pcap_reader.specs.declared.limits.TheConstants.{MAX_FRAME}
use Rattle.pcap_reader.specs.declared.capture.Capture.{Capture}
use Rattle.pcap_reader.specs.Captures.{frame_of}
use Rattle.pcap_reader.specs.Numbers.{number_of}
use Rattle.pcapng_reader.specs.declared.section.Section.{Section}
use Rattle.pcapng_reader.specs.declared.place.Place.{Place}
use Rattle.pcapng_reader.specs.declared.block.Block.{Block}
use Rattle.pcapng_reader.specs.declared.content.Content.TheVariants as content
use Rattle.pcapng_reader.specs.Blocks.{order_of, block_at}
use Rattle.pcapng_reader.specs.declared.fault.NgFault.{NgFault}
use Rattle.pcapng_reader.specs.declared.fault.NgFault.TheVariants as fault
use Rattle.pcapng_reader.specs.Format.{IsWritten, IsTruncated}
use Rattle.pcapng_reader.specs.Captures.{BeginsNg, HasNgCapture, HasNgFault}
use Rattle.pcapng_reader.specs.Files.{IsNgFile}
use Rattle.pcapng_reader.specs.Examples.{big_section, little_section, example_place}
use Rattle.pcapng_reader.specs.Examples.{enhanced_example, enhanced_packet, simple_example}
use Rattle.pcapng_reader.specs.Examples.{simple_packet}
use Rattle.pcapng_reader.specs.Writing.{section_bytes, enhanced_bytes, ng_bytes, ng_capture}

-- bytes have at most one capture
abbrev pub HasOneNgCapture : Type 0
HasOneNgCapture =
    (bytes : List ℕ) (a b : Capture) → HasNgCapture bytes a → HasNgCapture bytes b → a ≡ b

-- bytes have at most one fault
abbrev pub HasOneNgFault : Type 0
HasOneNgFault = (bytes : List ℕ) (a b : NgFault) → HasNgFault bytes a → HasNgFault bytes b → a ≡ b

-- bytes with a capture have no fault
abbrev pub HasNotBothNg : Type 0
HasNotBothNg =
    (bytes : List ℕ) (capture : Capture) (e : NgFault)
    → HasNgCapture bytes capture → HasNgFault bytes e → ⊥

-- all bytes that begin as a pcapng file does have a capture or a fault
abbrev pub HasOneOfBothNg : Type 0
HasOneOfBothNg =
    (bytes : List ℕ) → BeginsNg bytes
    → ((capture : Capture) × HasNgCapture bytes capture) ⊎ ((e : NgFault) × HasNgFault bytes e)

-- bytes begin with a type, a length, a body and the length again, in this byte order
pub record IsFramed (big : Bool) (len : ℕ) (bytes : List ℕ) : Type 0 where
  pub kind : List ℕ
  pub first : List ℕ
  pub body : List ℕ
  pub last : List ℕ
  pub more : List ℕ
  pub joined : bytes ≡ kind ++ (first ++ (body ++ (last ++ more)))
  pub kind_size : length kind ≡ 4
  pub first_size : length first ≡ 4
  pub body_size : length body + 12 ≡ len
  pub last_size : length last ≡ 4
  pub first_told : number_of big 4 first ≡ len
  pub last_told : number_of big 4 last ≡ len

-- a complete block is a type, a length, a body and the length again in its byte order, and the
-- length is a multiple of 4
abbrev pub HasFourPieces : Type 0
HasFourPieces =
    (section : Section) (place : Place) (bytes : List ℕ) (b : Block)
    → block_at section place bytes ≡ Ok (Some b)
    → (big : Bool) × (order_of section bytes ≡ Some big) × (b.len % 4 ≡ 0)
    × IsFramed big b.len bytes

-- the file of no frames is just the section
abbrev pub BeginsWithSection : Type 0
BeginsWithSection = ng_bytes [] ≡ section_bytes

-- appending the bytes of a frame to a file appends the frame to its capture
abbrev pub GrowsByFrame : Type 0
GrowsByFrame =
    (frames : List (List ℕ)) (f : List ℕ)
    → ng_bytes (frames ++ f ∷ []) ≡ ng_bytes frames ++ enhanced_bytes f

-- a file of at most `MAX_PACKETS` written frames has the capture of these frames, with nothing
-- truncated
abbrev pub ReadsNgBack : Type 0
ReadsNgBack =
    (frames : List (List ℕ)) → All (λ f. length f ≤ MAX_FRAME) frames
    → length frames ≤ MAX_PACKETS
    → HasNgCapture (ng_bytes frames) (ng_capture frames)

-- the records of a written file's capture have exactly the frames that were written
abbrev pub KeepsNgFrames : Type 0
KeepsNgFrames =
    (frames : List (List ℕ))
    → map (frame_of (ng_bytes frames)) (ng_capture frames).records ≡ frames

-- running out of memory is not a fault of bytes
abbrev pub IsNoWant : Type 0
IsNoWant = (bytes : List ℕ) → HasNgFault bytes fault.OutOfMemory → ⊥

-- a block that was put together after the format is read, and says what was said
abbrev pub ReadsWritten : Type 0
ReadsWritten =
    (section : Section) (place : Place) (bytes more : List ℕ) (b : Block)
    → IsWritten section place bytes b more
    → (block_at section place bytes ≡ Ok (Some b)) × (more ≡ drop b.len bytes)

-- a block that is read was put together after the format and says this; a list of bytes is one of
-- numbers below 256
abbrev pub ReadsWrittenOnly : Type 0
ReadsWrittenOnly =
    (section : Section) (place : Place) (bytes : List ℕ) (b : Block) → All (λ x. x < 256) bytes
    → block_at section place bytes ≡ Ok (Some b)
    → IsWritten section place bytes b (drop b.len bytes)

-- a block is truncated if and only if it is the beginning of one that was put together
abbrev pub TruncatesWritten : Type 0
TruncatesWritten =
    (section : Section) (place : Place) (bytes : List ℕ) → All (λ x. x < 256) bytes
    → (IsTruncated section bytes → block_at section place bytes ≡ Ok None)
    × (block_at section place bytes ≡ Ok None → IsTruncated section bytes)

-- a file has a capture if and only if it was put together so that its blocks say this capture
abbrev pub ReadsWrittenFiles : Type 0
ReadsWrittenFiles =
    (bytes : List ℕ) (capture : Capture) → All (λ x. x < 256) bytes
    → (IsNgFile bytes capture → HasNgCapture bytes capture)
    × (HasNgCapture bytes capture → IsNgFile bytes capture)

-- two blocks that are written out byte by byte are read as worked out by hand, whatever follows
abbrev pub ReadsExamples : Type 0
ReadsExamples =
    (more : List ℕ)
    → (block_at big_section example_place (enhanced_example ++ more)
    ≡ Ok (Some (record { len = 52; content = content.Packet enhanced_packet })))
    × (block_at little_section example_place (simple_example ++ more)
    ≡ Ok (Some (record { len = 24; content = content.Packet simple_packet })))

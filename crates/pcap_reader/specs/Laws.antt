-- Lemmas about captures and faults.
use Rattle.std.specs.Prelude.{◌≡◌, ◌≤◌, ◌<◌, ◌⊎◌, ℕ, Bool, List, [], ◌∷◌, ◌++◌, length, map, All}
use Rattle.steer_base.specs.declared.limits.TheConstants.{MAX_PACKETS}
use Rattle.pcap_reader.specs.declared.capture.Capture.{Capture}
use Rattle.pcap_reader.specs.declared.fault.CaptureFault.{CaptureFault}
use Rattle.pcap_reader.specs.Numbers.{number_of, magic_of, HasMagic}
use Rattle.pcap_reader.specs.Captures.{HasCapture, frame_of}
use Rattle.pcap_reader.specs.Faults.{HasFault}
use Rattle.pcap_reader.specs.Writing.{header_bytes, Packet, CanBeWritten, packet_bytes}
use Rattle.pcap_reader.specs.Writing.{capture_bytes, capture_of}

-- the first four bytes of a file announce a byte order and a unit of time if and only if they are
-- the magic number of this unit, read in this byte order
abbrev pub MagicIsRead : Type 0
MagicIsRead =
    (bytes : List ℕ) (big nano : Bool) → 4 ≤ length bytes → All (λ b. b < 256) bytes
    → (HasMagic big nano bytes → number_of big 4 bytes ≡ magic_of nano)
    × (number_of big 4 bytes ≡ magic_of nano → HasMagic big nano bytes)

-- bytes have at most one capture
abbrev pub HasOneCapture : Type 0
HasOneCapture = (bytes : List ℕ) (a b : Capture) → HasCapture bytes a → HasCapture bytes b → a ≡ b

-- bytes have at most one fault
abbrev pub HasOneFault : Type 0
HasOneFault = (bytes : List ℕ) (a b : CaptureFault) → HasFault bytes a → HasFault bytes b → a ≡ b

-- bytes with a capture have no fault
abbrev pub HasNotBoth : Type 0
HasNotBoth = (bytes : List ℕ) (capture : Capture) (fault : CaptureFault) → HasCapture bytes capture
    → HasFault bytes fault → ⊥

-- all bytes have a capture or a fault
abbrev pub HasOneOfBoth : Type 0
HasOneOfBoth =
    (bytes : List ℕ) → ((capture : Capture) × HasCapture bytes capture) ⊎ ((fault : CaptureFault)
    × HasFault bytes fault)

-- the file of no packets is just the header
abbrev pub BeginsWithHeader : Type 0
BeginsWithHeader = capture_bytes [] ≡ header_bytes

-- appending the bytes of a packet to a file appends the packet to its capture
abbrev pub GrowsByPacket : Type 0
GrowsByPacket = (packets : List Packet) (p : Packet) → capture_bytes (packets ++ p
    ∷ []) ≡ capture_bytes packets ++ packet_bytes p

-- a file of at most `MAX_PACKETS` written packets has the capture with exactly their times, and
-- nothing truncated
abbrev pub ReadsBack : Type 0
ReadsBack =
    (packets : List Packet) → All CanBeWritten packets → length packets ≤ MAX_PACKETS
    → HasCapture (capture_bytes packets) (capture_of packets)

-- the records of a written file's capture have exactly the frames that were written
abbrev pub KeepsFrames : Type 0
KeepsFrames =
    (packets : List Packet) → map (frame_of (capture_bytes packets))
    (capture_of packets).records ≡ map (λ p. p.frame) packets

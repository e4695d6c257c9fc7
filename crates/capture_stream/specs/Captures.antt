-- The capture of a file, by the format that its first four bytes choose.
use Rattle.std.specs.Prelude.{◌≡◌, ◌≤◌, ◌⊎◌, ℕ, List, ◌++◌, length, map, Option, ⊤}
use Rattle.steer_base.specs.declared.limits.TheConstants.{MAX_PACKETS}
use Rattle.pcap_reader.specs.Captures.{HasCapture, frame_of}
use Rattle.pcap_reader.specs.Faults.{HasFault}
use Rattle.pcap_reader.specs.declared.capture.Capture.{Capture}
use Rattle.pcapng_reader.specs.Captures.{BeginsNg, HasNgCapture, HasNgFault}
use Rattle.capture_stream.specs.declared.fault.StreamFault.{StreamFault}
use Rattle.capture_stream.specs.declared.fault.StreamFault.TheVariants as fault

-- The bytes have this capture: that of a pcapng file where they begin as one, else that of a
-- classic pcap file.
abbrev pub HasAnyCapture : List ℕ → Capture → Type 0
HasAnyCapture bytes capture =
    HasNgCapture bytes capture ⊎ ((BeginsNg bytes → ⊥) × HasCapture bytes capture)

-- The bytes have a capture with these frames, which ends with this cut.
pub record HasFrames (bytes : List ℕ) (frames : List (List ℕ)) (cut : Option ℕ) : Type 0 where
  pub capture : Capture
  pub has : HasAnyCapture bytes capture
  pub frames_are : frames ≡ map (frame_of bytes) capture.records
  pub cut_is : cut ≡ capture.cut
  pub few : length frames ≤ MAX_PACKETS

-- The bytes have no capture, for this reason. That memory ran out, or that the file was not read,
-- says nothing of them.
abbrev pub HasStreamFault : List ℕ → StreamFault → Type 0
HasStreamFault bytes (fault.Classic e) = (BeginsNg bytes → ⊥) × HasFault bytes e
HasStreamFault bytes (fault.Ng e) = HasNgFault bytes e
HasStreamFault bytes _ = ⊥

-- Every file that begins with these bytes has no capture, for this reason; that memory ran out says
-- nothing of it.
abbrev pub TellsOf : List ℕ → StreamFault → Type 0
TellsOf bytes fault.OutOfMemory = ⊤
TellsOf bytes e = (more : List ℕ) → HasStreamFault (bytes ++ more) e

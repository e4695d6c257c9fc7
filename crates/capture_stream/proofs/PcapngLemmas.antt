-- How a pcapng file ends.
use Rattle.std.proofs.Common.{◌≡◌, ◌<◌, ℕ, List, [], ◌∷◌, ◌++◌, length, None, Some}
use Rattle.std.proofs.Common.{Ok, sym, ap, arith, length-append, inl}
use Rattle.std.proofs.lemmas.List.{length-map}
use Rattle.steer_base.specs.declared.limits.TheConstants.{MAX_PACKETS}
use Rattle.pcap_reader.specs.Captures.{frame_of}
use Rattle.pcapng_reader.specs.Blocks.{block_at}
use Rattle.pcapng_reader.specs.Captures.{BeginsNg, packets_of}
use Rattle.pcapng_reader.specs.Walkers.{Captures, CapturesAll, CapturesCut, Passed}
use Rattle.pcapng_reader.specs.declared.walker.NgWalker.{NgWalker}
use Rattle.capture_stream.specs.Captures.{HasFrames}
use Rattle.capture_stream.specs.Walks.{cut_of}

-- the capture of the frames that were passed
has-captured : (w : NgWalker) (bytes : List ℕ) (frames : List (List ℕ)) (cut : _)
    → Captures w bytes frames cut → HasFrames bytes frames cut
has-captured w bytes frames cut is =
    record {
      capture = is.capture;
      has = inl is.has;
      frames_are = is.frames_are;
      cut_is = sym is.end;
      few = omega (
        arith,
        ap length is.frames_are,
        length-map is.capture.records (frame_of bytes),
        is.few,
      );
    }

-- where no whole block is left, the file ends
pub ends-there : CapturesAll → CapturesCut → (w : NgWalker) (bytes : List ℕ)
    (frames : List (List ℕ)) (rest : List ℕ) → BeginsNg bytes → Passed w bytes frames rest
    → block_at w.section w.place rest ≡ Ok None → HasFrames bytes frames (cut_of rest)
ends-there all cut w bytes frames [] begins passed none =
    has-captured w bytes frames None (all w bytes frames begins passed)
ends-there all cut w bytes frames (b ∷ bs) begins passed none =
    has-captured w bytes frames (Some (length (b ∷ bs)))
    (cut w bytes frames (b ∷ bs) begins passed (omega arith) none)

-- before the last frame there are fewer than a capture may have
pub fewer : (w : NgWalker) (bytes : List ℕ) (frames : List (List ℕ)) (frame rest : List ℕ)
    → Passed w bytes (frames ++ frame ∷ []) rest → length frames < MAX_PACKETS
fewer w bytes frames frame rest passed =
    omega (
      arith,
      passed.few,
      length-append frames (frame ∷ []),
      ap length passed.packets,
      length-map (packets_of passed.blocks) (frame_of bytes),
    )

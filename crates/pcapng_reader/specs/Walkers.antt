-- A walk over a pcapng file whose bytes come in pieces: what was passed, and what is left of the
-- bytes so far.
use Rattle.std.specs.Prelude.{◌≡◌, ◌≤◌, ◌<◌, ℕ, ◌+◌, ◌^◌, List, [], ◌∷◌, ◌++◌, length, take}
use Rattle.std.specs.Prelude.{drop, map, Option, Some, None, Ok}
use Rattle.steer_base.specs.declared.limits.TheConstants.{MAX_PACKETS}
use Rattle.pcap_reader.specs.declared.limits.TheConstants.{MAX_FRAME}
use Rattle.pcap_reader.specs.declared.capture.Capture.{Capture}
use Rattle.pcap_reader.specs.Captures.{frame_of}
use Rattle.pcapng_reader.specs.declared.section.Section.{Section}
use Rattle.pcapng_reader.specs.declared.place.Place.{Place}
use Rattle.pcapng_reader.specs.declared.block.Block.{Block}
use Rattle.pcapng_reader.specs.declared.walker.NgWalker.{NgWalker}
use Rattle.pcapng_reader.specs.declared.walker.NgNext.{NgNext}
use Rattle.pcapng_reader.specs.declared.walker.NgNext.TheVariants as next
use Rattle.pcapng_reader.specs.Blocks.{block_at}
use Rattle.pcapng_reader.specs.Captures.{no_section, file_start, section_behind, place_behind}
use Rattle.pcapng_reader.specs.Captures.{packets_of, first_order, BeginsNg}
use Rattle.pcapng_reader.specs.Captures.{HasNgCapture}

-- the section of a block, and what comes before it
pub record Spot : Type 0 where
  pub section : Section
  pub place : Place

-- where the first block is, and where the one after a block is
abbrev pub first_spot : Spot
first_spot = record { section = no_section; place = file_start }

abbrev pub spot_behind : Spot → Block → Spot
spot_behind spot b =
    record { section = section_behind spot.section b.content; place = place_behind spot.place b }

-- the bytes from one spot on are these blocks one after another, and then the rest from the last
-- spot on
abbrev pub Passes : Spot → List ℕ → List Block → Spot → List ℕ → Type 0
Passes spot bytes [] last rest = (bytes ≡ rest) × (spot ≡ last)
Passes spot bytes (b ∷ bs) last rest =
    (0 < length bytes) × (block_at spot.section spot.place bytes ≡ Ok (Some b))
    × Passes (spot_behind spot b) (drop b.len bytes) bs last rest

-- where the next block of a walker is
abbrev pub spot_of : NgWalker → Spot
spot_of w = record { section = w.section; place = w.place }

-- the bytes are the blocks that a walker has passed, with these frames, and then the rest
pub record Passed (w : NgWalker) (bytes : List ℕ) (frames : List (List ℕ)) (rest : List ℕ)
    : Type 0 where
  pub blocks : List Block
  pub passes : Passes first_spot bytes blocks (spot_of w) rest
  pub order : w.big ≡ first_order blocks
  pub packets : frames ≡ map (frame_of bytes) (packets_of blocks)
  pub few : length (packets_of blocks) ≤ MAX_PACKETS

-- a walker has passed a block of this many bytes, which is within the window
pub record Moves (old new : NgWalker) (window : List ℕ) (size : ℕ) : Type 0 where
  pub some : 0 < size
  pub within : size ≤ length window
  pub start : new.place.start ≡ old.place.start + size
  pub count : new.place.block ≡ old.place.block + 1

-- what a walker, which was `old` and is `new`, finds at the front of a window: a block, with the
-- place of a frame within the block, or no whole block
abbrev pub Finds : NgWalker → NgWalker → List ℕ → NgNext → Type 0
Finds old new window (next.Frame start len size) =
    Moves old new window size × (start + len ≤ size) × (len ≤ MAX_FRAME)
Finds old new window (next.Other size) = Moves old new window size
Finds old new window next.Incomplete =
    (new ≡ old) × (block_at old.section old.place window ≡ Ok None) × (length window < 2 ^ 32)

-- what a walker has passed after that, if it had passed these frames before the window
abbrev pub GoesOn : NgWalker → List ℕ → List (List ℕ) → List ℕ → NgNext → Type 0
GoesOn new bytes frames window (next.Frame start len size) =
    Passed new bytes (frames ++ take len (drop start window) ∷ []) (drop size window)
GoesOn new bytes frames window (next.Other size) = Passed new bytes frames (drop size window)
GoesOn new bytes frames window next.Incomplete = Passed new bytes frames window

-- what a walker has passed, and the rest, fill the bytes
pub record Fills (w : NgWalker) (bytes rest : List ℕ) : Type 0 where
  pub rest_is : rest ≡ drop w.place.start bytes
  pub size : w.place.start + length rest ≡ length bytes
  pub narrow : w.place.block ≤ w.place.start

-- the bytes have the capture of the frames that a walker has passed, and it ends like this
pub record Captures (w : NgWalker) (bytes : List ℕ) (frames : List (List ℕ)) (cut : Option ℕ)
    : Type 0 where
  pub capture : Capture
  pub has : HasNgCapture bytes capture
  pub order : capture.big ≡ w.big
  pub frames_are : frames ≡ map (frame_of bytes) capture.records
  pub few : length capture.records ≤ MAX_PACKETS
  pub end : capture.cut ≡ cut

-- bytes that begin as a pcapng file does still do with more bytes behind them
abbrev pub BeginsMore : Type 0
BeginsMore = (bytes more : List ℕ) → BeginsNg bytes → BeginsNg (bytes ++ more)

-- more bytes go to the rest
abbrev pub PassesMore : Type 0
PassesMore =
    (w : NgWalker) (bytes more : List ℕ) (frames : List (List ℕ)) (rest : List ℕ)
    → Passed w bytes frames rest → Passed w (bytes ++ more) frames (rest ++ more)

-- the place of the next block is the number of bytes passed, and no block is empty
abbrev pub FillsBytes : Type 0
FillsBytes =
    (w : NgWalker) (bytes : List ℕ) (frames : List (List ℕ)) (rest : List ℕ)
    → Passed w bytes frames rest → Fills w bytes rest

-- where nothing is left at the end of the file
abbrev pub CapturesAll : Type 0
CapturesAll =
    (w : NgWalker) (bytes : List ℕ) (frames : List (List ℕ)) → BeginsNg bytes
    → Passed w bytes frames [] → Captures w bytes frames None

-- where a truncated block is left at the end of the file
abbrev pub CapturesCut : Type 0
CapturesCut =
    (w : NgWalker) (bytes : List ℕ) (frames : List (List ℕ)) (rest : List ℕ) → BeginsNg bytes
    → Passed w bytes frames rest → 0 < length rest
    → block_at w.section w.place rest ≡ Ok None
    → Captures w bytes frames (Some (length rest))

-- What the walker of a capture format finds at the front of a window on a file. By its relation
-- `passed` a walker has passed some bytes, which have these frames and are followed by this rest.
use Rattle.std.specs.Prelude.{◌≡◌, ◌≤◌, ◌<◌, ℕ, ◌+◌, List, [], ◌∷◌, ◌++◌, length, take, drop}
use Rattle.std.specs.Prelude.{Option, Some, None, Result, Ok, Err}
use Rattle.outside_io.specs.declared.reading.TheConstants.{MAX_FILE}
use Rattle.steer_base.specs.declared.limits.TheConstants.{MAX_PACKETS}
use Rattle.capture_stream.specs.Captures.{HasFrames, TellsOf}
use Rattle.capture_stream.specs.declared.fault.StreamFault.{StreamFault}
use Rattle.capture_stream.specs.declared.walk.Next.{Next}
use Rattle.capture_stream.specs.declared.walk.Next.TheVariants as next

-- a walker has passed some bytes of a file, of which this is the rest that was read
abbrev pub MayWalk : {W : Type 0} → (W → List ℕ → List (List ℕ) → List ℕ → Type 0) → W → List ℕ
    → Type 0
MayWalk passed walker rest =
    (bytes : List ℕ) × (frames : List (List ℕ)) × passed walker bytes frames rest
    × (length bytes ≤ MAX_FILE)

-- bytes that follow are part of the rest
abbrev pub GoesOn : {W : Type 0} → (W → List ℕ → List (List ℕ) → List ℕ → Type 0) → W → Type 0
GoesOn passed walker =
    (bytes : List ℕ) (frames : List (List ℕ)) (rest more : List ℕ)
    → passed walker bytes frames rest → passed walker (bytes ++ more) frames (rest ++ more)

-- how a file ends with these bytes of a record that is not complete
abbrev pub cut_of : List ℕ → Option ℕ
cut_of [] = None
cut_of (byte ∷ rest) = Some (length (byte ∷ rest))

-- what is found at the front of a window, and the walker before and after
abbrev pub Finds : {W : Type 0} → (W → List ℕ → List (List ℕ) → List ℕ → Type 0) → W → List ℕ
    → Result Next StreamFault → W → Type 0
Finds passed old window (Ok (next.Frame start len size)) new =
    (0 < size) × (size ≤ length window) × (start + len ≤ size)
    × ((bytes : List ℕ) (frames : List (List ℕ)) → passed old bytes frames window
    → (length frames < MAX_PACKETS)
    × passed new bytes (frames ++ take len (drop start window) ∷ []) (drop size window))
Finds passed old window (Ok (next.Other size)) new =
    (0 < size) × (size ≤ length window)
    × ((bytes : List ℕ) (frames : List (List ℕ)) → passed old bytes frames window
    → passed new bytes frames (drop size window))
Finds passed old window (Ok next.Incomplete) new =
    (new ≡ old)
    × ((bytes : List ℕ) (frames : List (List ℕ)) → passed old bytes frames window
    → HasFrames bytes frames (cut_of window))
Finds passed old window (Err e) new =
    (bytes : List ℕ) (frames : List (List ℕ)) → passed old bytes frames window → TellsOf bytes e

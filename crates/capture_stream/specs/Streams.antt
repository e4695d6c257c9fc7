-- Frames that are read from a file in pieces. `named` are the bytes of the file, and `left` those
-- that are not yet read, where the desk tells them.
use Rattle.std.specs.Prelude.{◌≡◌, ◌≤◌, ◌<◌, ℕ, List, length, Option, Some, IfSome, ⊤}
use Rattle.std.specs.Prelude.{Bool, true, false}
use Rattle.std.specs.Io.KnownBytes.{Consumes, Keeps}
use Rattle.capture_stream.specs.Captures.{HasFrames, HasStreamFault}
use Rattle.capture_stream.specs.Windows.{content}
use Rattle.capture_stream.specs.declared.fault.StreamFault.{StreamFault}
use Rattle.capture_stream.specs.declared.fault.StreamFault.TheVariants as fault
use Rattle.capture_stream.specs.declared.window.Window.{Window}

-- The sink has taken the frames of the capture that the file's bytes are, of which there are no
-- more than the limit.
pub record HasTaken {F : Type 0} (takes : F → List (List ℕ) → F → Type 0)
    (named : Option (List ℕ)) (limit : ℕ) (first : F) (cut : Option ℕ) (sink : F) : Type 0 where
  pub bytes : List ℕ
  pub whole : Keeps named (Some bytes)
  pub few : length bytes ≤ limit
  pub frames : List (List ℕ)
  pub has : HasFrames bytes frames cut
  pub taken : takes first frames sink

-- The reason why a file was not read as a capture is true of its bytes: they are more than the
-- limit, or no capture. The others say nothing of them.
abbrev pub IsFaultOf : Option (List ℕ) → ℕ → StreamFault → Type 0
IsFaultOf named limit fault.TooLong = IfSome named (λ bytes. limit < length bytes)
IsFaultOf named limit fault.Unread = ⊤
IsFaultOf named limit fault.OutOfMemory = ⊤
IsFaultOf named limit e =
    (bytes : List ℕ) × Keeps named (Some bytes) × (length bytes ≤ limit) × HasStreamFault bytes e

-- These bytes of the file were read so far.
pub record AreRead (named left : Option (List ℕ)) (window : Window) (bytes : List ℕ)
    : Type 0 where
  pub read : Consumes named left bytes
  pub taken : window.taken ≡ length bytes
  pub few : window.taken ≤ window.limit

-- A walk is under way: the walker has passed these bytes up to the window, and the sink has taken
-- their frames.
pub record IsUnderWay {W F : Type 0} (passed : W → List ℕ → List (List ℕ) → List ℕ → Type 0)
    (takes : F → List (List ℕ) → F → Type 0) (named left : Option (List ℕ)) (first : F)
    (walker : W) (window : Window) (sink : F) : Type 0 where
  pub bytes : List ℕ
  pub frames : List (List ℕ)
  pub are_read : AreRead named left window bytes
  pub is_passed : passed walker bytes frames (content window)
  pub taken : takes first frames sink

-- All bytes of the file that were read are in the window.
pub record IsBegun (named left : Option (List ℕ)) (window : Window) : Type 0 where
  pub bytes : List ℕ
  pub are_read : AreRead named left window bytes
  pub all : content window ≡ bytes

-- The window has as many of the first bytes of the file as are wanted, or all that there are.
pub record IsFilled (named : Option (List ℕ)) (wanted : ℕ) (left : Option (List ℕ))
    (window : Window) (enough : Bool) : Type 0 where
  pub begun : IsBegun named left window
  pub has : enough ≡ true → wanted ≤ length (content window)
  pub short : enough ≡ false → length (content window) < wanted
  pub whole : enough ≡ false → Keeps named (Some (content window))

-- The window on a file that is read in pieces.
use Rattle.std.specs.Prelude.{◌≡◌, ◌≤◌, ◌<◌, ℕ, ◌+◌, Bool, true, false, List, ◌++◌, length, drop}
use Rattle.std.specs.Prelude.{Option, Result, Ok, Err, ⊤}
use Rattle.std.specs.Io.KnownBytes.{Consumes, IsAtEnd, Keeps}
use Rattle.capture_stream.specs.declared.fault.StreamFault.{StreamFault}
use Rattle.capture_stream.specs.declared.fault.StreamFault.TheVariants as fault
use Rattle.capture_stream.specs.declared.window.Window.{Window}

-- the bytes that were read and not yet passed
abbrev pub content : Window → List ℕ
content window = drop window.start window.buffer.items

-- one read of a file, of which these bytes were left before and after: the window has a piece more,
-- or the file has ended, or it has more bytes than it may have
abbrev pub Grows : Result Bool StreamFault → Window → Window → Option (List ℕ) → Option (List ℕ)
    → Type 0
Grows (Ok true) old new left left' =
    (piece : List ℕ) × (0 < length piece) × Consumes left left' piece
    × (content new ≡ content old ++ piece) × (new.taken ≡ old.taken + length piece)
    × (new.taken ≤ new.limit) × (new.limit ≡ old.limit)
Grows (Ok false) old new left left' =
    IsAtEnd left × Keeps left left' × (content new ≡ content old) × (new.taken ≡ old.taken)
    × (new.limit ≡ old.limit)
Grows (Err fault.TooLong) old new left left' =
    (piece : List ℕ) × Consumes left left' piece × (old.limit < old.taken + length piece)
Grows (Err fault.Unread) old new left left' = ⊤
Grows (Err fault.OutOfMemory) old new left left' = ⊤
Grows (Err e) old new left left' = ⊥

-- What the calls of a desk do to its bytes, if it can observe them.
use Rattle.std.specs.Prelude.{◌<◌, ◌≤◌, ℕ, List, Bool, true, false, length, take, ⊤, Option, Some}
use Rattle.std.specs.Prelude.{None, IsSome}
use Rattle.std.specs.Io.KnownBytes.{Keeps, Consumes, IsAtEnd}
use Rattle.outside_io.specs.declared.desk.Begin.{Begin}
use Rattle.outside_io.specs.declared.desk.Begin.TheVariants as begin
use Rattle.outside_io.specs.declared.desk.Got.{Got}
use Rattle.outside_io.specs.declared.desk.Got.TheVariants as got

-- the bytes by name of a desk that observes none
abbrev pub untold : List ℕ → Option (List ℕ)
untold name = None

-- a desk that observed some bytes still does, though they may be others
abbrev pub GoesOnTelling : Option (List ℕ) → Option (List ℕ) → Type 0
GoesOnTelling None now = ⊤
GoesOnTelling (Some bytes) now = IsSome now

-- after a successful `begin` all bytes of the named file are left
abbrev pub Begins : Begin → Option (List ℕ) → Option (List ℕ) → Type 0
Begins begin.Ok named left = Keeps named left
Begins begin.Failed named left = ⊤

-- a read returns the first of the bytes left, or none is left, or it fails and takes none
abbrev pub Reads : Got → List ℕ → Option (List ℕ) → Option (List ℕ) → Type 0
Reads (got.Bytes n) buf old new = (0 < n) × (n ≤ length buf) × Consumes old new (take n buf)
Reads got.End buf old new = IsAtEnd old × Keeps old new
Reads got.Failed buf old new = Keeps old new

-- the number of bytes that a read returned
abbrev pub read_count : Got → ℕ
read_count (got.Bytes n) = n
read_count got.End = 0
read_count got.Failed = 0

-- whether a `begin` failed
abbrev pub has_failed : Begin → Bool
has_failed begin.Ok = false
has_failed begin.Failed = true

-- whether a read failed
abbrev pub read_failed : Got → Bool
read_failed (got.Bytes n) = false
read_failed got.End = false
read_failed got.Failed = true

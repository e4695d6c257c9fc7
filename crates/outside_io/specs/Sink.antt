-- What the calls of a sink add to its bytes, if it can observe them.
use Rattle.std.specs.Prelude.{◌<◌, ◌≤◌, ℕ, List, Bool, true, false, length, take, Option}
use Rattle.std.specs.Io.KnownBytes.{Keeps, Appends}
use Rattle.outside_io.specs.declared.sink.Took.{Took}
use Rattle.outside_io.specs.declared.sink.Took.TheVariants as took

-- a write adds the first bytes of its piece, at least one, or fails and adds none
abbrev pub Takes : Took → List ℕ → Option (List ℕ) → Option (List ℕ) → Type 0
Takes (took.Bytes n) piece old new = (0 < n) × (n ≤ length piece) × Appends old new (take n piece)
Takes took.Failed piece old new = Keeps old new

-- whether a write failed
abbrev pub write_failed : Took → Bool
write_failed (took.Bytes n) = false
write_failed took.Failed = true

-- a prefix of these bytes was added, which may be empty or all
abbrev pub AppendsSome : Option (List ℕ) → Option (List ℕ) → List ℕ → Type 0
AppendsSome old new bytes = (n : ℕ) × (n ≤ length bytes) × Appends old new (take n bytes)

-- What a sink took of a text, by the bytes that it observes and its count of faults.
use Rattle.std.specs.Prelude.{ℕ, ◌≤◌, List, Option}
use Rattle.std.specs.Io.KnownBytes.{Appends}
use Rattle.outside_io.specs.Counts.{Rose}
use Rattle.outside_io.specs.Sink.{AppendsSome}

-- the sink took the whole text
pub record Wrote (old new : Option (List ℕ)) (before now : ℕ) (text : List ℕ) : Type 0 where
  pub whole : Appends old new text
  pub later : before ≤ now

-- the sink took a prefix of the text, and failed
pub record Stopped (old new : Option (List ℕ)) (before now : ℕ) (text : List ℕ) : Type 0 where
  pub part : AppendsSome old new text
  pub fault : Rose before now

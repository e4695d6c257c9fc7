-- A walk over a pcapng file.
use Rattle.std.specs.Prelude.{ℕ, List}
use Rattle.pcapng_reader.specs.Captures.{BeginsNg}
use Rattle.pcapng_reader.specs.Walkers.{Passed}
use Rattle.pcapng_reader.specs.declared.walker.NgWalker.{NgWalker}

-- the bytes begin as a pcapng file, and the walker has passed these blocks of them up to the rest
abbrev pub HasPassed : NgWalker → List ℕ → List (List ℕ) → List ℕ → Type 0
HasPassed walker bytes frames rest = BeginsNg bytes × Passed walker bytes frames rest

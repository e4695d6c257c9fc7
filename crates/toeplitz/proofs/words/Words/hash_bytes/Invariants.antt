use Rattle.std.proofs.Common.{◌≡◌, take}
use Rattle.toeplitz.specs.Tables.{xor_of_bytes}
use Rattle.toeplitz.proofs.words.Words.hash_bytes.Given as goal

abbrev pub invariant-loop-at : goal.invariant-loop-at
invariant-loop-at g l =
    l.hash ≡ xor_of_bytes (g.Self.Words.key l.self) l.place (take l.at l.bytes)

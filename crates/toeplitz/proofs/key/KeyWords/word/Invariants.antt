use Rattle.std.proofs.Common.{◌≡◌}
use Rattle.toeplitz.specs.Tables.{xor_of_byte}
use Rattle.toeplitz.proofs.key.KeyWords.word.Given as goal

abbrev pub invariant-loop-bit : goal.invariant-loop-bit
invariant-loop-bit l = l.word ≡ xor_of_byte l.self l.place l.byte l.bit

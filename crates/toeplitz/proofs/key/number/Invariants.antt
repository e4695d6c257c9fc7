use Rattle.std.proofs.Common.{◌≡◌, ◌<◌, ◌*◌, ◌^◌, take}
use Rattle.toeplitz.specs.Toeplitz.{number_of}
use Rattle.toeplitz.proofs.key.number.Given as goal

abbrev pub invariant-loop-byte : goal.invariant-loop-byte
invariant-loop-byte l = record {
  value : l.number ≡ number_of (take l.byte-index l.bytes);
  fits : l.number < 2 ^ (8 * l.byte-index);
}

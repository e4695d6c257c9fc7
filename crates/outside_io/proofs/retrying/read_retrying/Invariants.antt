use Rattle.std.proofs.Common.{◌≡◌, length}
use Rattle.std.specs.Io.KnownBytes.{Keeps}
use Rattle.outside_io.proofs.retrying.read_retrying.Given as goal

-- no byte was taken, and the buffer has its length
abbrev pub invariant-loop : goal.invariant-loop
invariant-loop g l = record {
  room : length l.buf ≡ length l.initial.buf;
  kept : Keeps (g.R.Read.remaining l.initial.reader) (g.R.Read.remaining l.reader);
}

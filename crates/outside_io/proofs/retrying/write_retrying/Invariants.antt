use Rattle.std.specs.Io.KnownBytes.{Keeps}
use Rattle.outside_io.proofs.retrying.write_retrying.Given as goal

-- no byte was written
abbrev pub invariant-loop : goal.invariant-loop
invariant-loop g l = Keeps (g.W.Write.contents l.initial.writer) (g.W.Write.contents l.writer)

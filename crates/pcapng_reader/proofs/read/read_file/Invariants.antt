use Rattle.std.proofs.Common.{length}
use Rattle.pcapng_reader.proofs.Walk.{Walked}
use Rattle.pcapng_reader.proofs.read.read_file.Given as goal

abbrev pub invariant-loop-rest : goal.invariant-loop-rest
invariant-loop-rest l = Walked l.bytes l.reader.walker.section l.reader.walker.place
    l.reader.records l.reader.walker.big l.rest

abbrev pub decreases-loop-rest : goal.decreases-loop-rest
decreases-loop-rest l = length l.rest

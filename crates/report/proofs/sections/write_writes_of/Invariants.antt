use Rattle.std.proofs.Common.{drop, map}
use Rattle.report.specs.Lines.{write_row}
use Rattle.report.specs.Texts.{text_of}
use Rattle.report.proofs.WrittenLemmas.{Goes}
use Rattle.report.proofs.sections.write_writes_of.Given as goal

-- the rows of the writes from this one on are left
abbrev pub invariant-loop-i : goal.invariant-loop-i
invariant-loop-i g l =
    Goes (g.K.Sink.written l.initial.out) (g.K.Sink.written l.out) (g.K.Sink.faults l.initial.out)
    (g.K.Sink.faults l.out)
    (text_of (map (write_row l.app) l.writes)) (text_of (map (write_row l.app) (drop l.i l.writes)))

use Rattle.std.proofs.Common.{drop}
use Rattle.report.specs.Report.{write_rows}
use Rattle.report.specs.Texts.{text_of}
use Rattle.report.proofs.WrittenLemmas.{Goes}
use Rattle.report.proofs.sections.write_sock_writes.Given as goal

-- the rows of the applications from this one on are left
abbrev pub invariant-loop-app : goal.invariant-loop-app
invariant-loop-app g l =
    Goes (g.K.Sink.written l.initial.out) (g.K.Sink.written l.out) (g.K.Sink.faults l.initial.out)
    (g.K.Sink.faults l.out)
    (text_of (write_rows 0 l.writes)) (text_of (write_rows l.app (drop l.app l.writes)))

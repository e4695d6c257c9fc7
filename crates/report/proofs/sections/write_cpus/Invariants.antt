use Rattle.std.proofs.Common.{drop}
use Rattle.report.specs.Lines.{cpu_row}
use Rattle.report.specs.Report.{cpu_rows, numbered}
use Rattle.report.specs.Texts.{text_of}
use Rattle.report.proofs.WrittenLemmas.{Goes}
use Rattle.report.proofs.sections.write_cpus.Given as goal

-- the rows of the processors from this one on are left
abbrev pub invariant-loop-cpu : goal.invariant-loop-cpu
invariant-loop-cpu g l =
    Goes (g.K.Sink.written l.initial.out) (g.K.Sink.written l.out) (g.K.Sink.faults l.initial.out)
    (g.K.Sink.faults l.out)
    (text_of (cpu_rows l.lanes)) (text_of (numbered cpu_row l.cpu (drop l.cpu l.lanes)))

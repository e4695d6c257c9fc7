use Rattle.std.proofs.Common.{drop}
use Rattle.report.specs.Commands.{command_row}
use Rattle.report.specs.Report.{command_rows, numbered}
use Rattle.report.specs.Texts.{text_of}
use Rattle.report.proofs.WrittenLemmas.{Goes}
use Rattle.report.proofs.sections.write_commands.Given as goal

-- the rows of the commands from this one on are left
abbrev pub invariant-loop-number : goal.invariant-loop-number
invariant-loop-number g l =
    Goes (g.K.Sink.written l.initial.out) (g.K.Sink.written l.out) (g.K.Sink.faults l.initial.out)
    (g.K.Sink.faults l.out)
    (text_of (command_rows l.commands))
    (text_of (numbered command_row l.number (drop l.number l.commands)))

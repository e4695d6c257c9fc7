use Rattle.std.proofs.Common.{drop}
use Rattle.std.specs.Prelude.{slice_index}
use Rattle.report.specs.Lines.{queue_row}
use Rattle.report.specs.Report.{numbered, queue_rows}
use Rattle.report.specs.Texts.{text_of}
use Rattle.report.proofs.WrittenLemmas.{Goes}
use Rattle.report.proofs.sections.write_queues.Given as goal

-- the rows of the queues from this one on are left
abbrev pub invariant-loop-queue : goal.invariant-loop-queue
invariant-loop-queue g l =
    Goes (g.K.Sink.written l.initial.out) (g.K.Sink.written l.out) (g.K.Sink.faults l.initial.out)
    (g.K.Sink.faults l.out)
    (text_of (queue_rows l.lines.arrived l.taken))
    (text_of (numbered (λ queue count. queue_row queue (slice_index l.lines.arrived queue)
    count) l.queue (drop l.queue l.taken)))

use Rattle.std.proofs.Common.{drop}
use Rattle.report.specs.Lines.{tx_row}
use Rattle.report.specs.Report.{numbered, tx_rows}
use Rattle.report.specs.Texts.{text_of}
use Rattle.report.proofs.WrittenLemmas.{Goes}
use Rattle.report.proofs.sections.write_txs.Given as goal

-- the rows of the transmit queues from this one on are left
abbrev pub invariant-loop-tx : goal.invariant-loop-tx
invariant-loop-tx g l =
    Goes (g.K.Sink.written l.initial.out) (g.K.Sink.written l.out) (g.K.Sink.faults l.initial.out)
    (g.K.Sink.faults l.out)
    (text_of (tx_rows l.lanes)) (text_of (numbered tx_row l.tx (drop l.tx l.lanes)))

use Rattle.std.proofs.Common.{rules, arith, ◌+◌, drop}
use Rattle.report.specs.Lines.{tx_row}
use Rattle.report.specs.Report.{numbered}
use Rattle.report.specs.Texts.{text_of}
use Rattle.report.proofs.RowsLemmas.{numbered-next}
use Rattle.report.proofs.WrittenLemmas.{Goes-next, Goes-stop}
use Rattle.report.proofs.sections.write_txs.Goals as goal

pub returns-in_err-put_line-clause-part : goal.returns-in_err-put_line-clause-part
returns-in_err-put_line-clause-part g c =
    let next = numbered-next tx_row c.loop-tx.tx c.args.lanes.now c.get.result.now c.tx_line.new.buf
    (omega arith) c.get.ensures c.tx_line.ensures in
    let found = Goes-stop
    (text_of (numbered tx_row (c.loop-tx.tx + 1) (drop (c.loop-tx.tx + 1) c.args.lanes.now)))
    c.loop-tx.invariant next c.in_err-put_line.ensures.part in
    search (rules, found)

pub loop-tx-preserved : goal.loop-tx-preserved
loop-tx-preserved g c =
    let next = numbered-next tx_row c.loop-tx.tx c.args.lanes.now c.get.result.now c.tx_line.new.buf
    (omega arith) c.get.ensures c.tx_line.ensures in
    Goes-next c.loop-tx.invariant next c.in_ok-put_line.ensures.whole

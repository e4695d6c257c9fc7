use Rattle.std.proofs.Common.{rules, arith, ◌+◌, drop}
use Rattle.report.specs.Report.{write_rows}
use Rattle.report.specs.Texts.{text_of}
use Rattle.report.proofs.RowsLemmas.{writes-next}
use Rattle.report.proofs.WrittenLemmas.{Goes-next, Goes-stop}
use Rattle.report.proofs.sections.write_sock_writes.Goals as goal

pub returns-in_err-write_writes_of-clause-part : goal.returns-in_err-write_writes_of-clause-part
returns-in_err-write_writes_of-clause-part g c =
    let next = writes-next c.loop-app.app c.args.writes.now c.get.result.now
    (omega arith) c.get.ensures in
    let found = Goes-stop
    (text_of (write_rows (c.loop-app.app + 1) (drop (c.loop-app.app + 1) c.args.writes.now)))
    c.loop-app.invariant next c.in_err-write_writes_of.ensures.part in
    search (rules, found)

pub loop-app-preserved : goal.loop-app-preserved
loop-app-preserved g c =
    let next = writes-next c.loop-app.app c.args.writes.now c.get.result.now
    (omega arith) c.get.ensures in
    Goes-next c.loop-app.invariant next c.in_ok-write_writes_of.ensures.whole

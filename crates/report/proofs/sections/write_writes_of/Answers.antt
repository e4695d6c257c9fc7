use Rattle.std.proofs.Common.{rules, arith, ◌+◌, drop, map}
use Rattle.report.specs.Lines.{write_row}
use Rattle.report.specs.Texts.{text_of}
use Rattle.report.proofs.RowsLemmas.{map-next}
use Rattle.report.proofs.WrittenLemmas.{Goes-next, Goes-stop}
use Rattle.report.proofs.sections.write_writes_of.Goals as goal

pub returns-in_err-put_line-clause-part : goal.returns-in_err-put_line-clause-part
returns-in_err-put_line-clause-part g c =
    let next = map-next (write_row c.args.app) c.loop-i.i c.args.writes.now c.get.result.now
    c.write_line.new.buf (omega arith) c.get.ensures c.write_line.ensures in
    let found = Goes-stop
    (text_of (map (write_row c.args.app) (drop (c.loop-i.i + 1) c.args.writes.now)))
    c.loop-i.invariant next c.in_err-put_line.ensures.part in
    search (rules, found)

pub loop-i-preserved : goal.loop-i-preserved
loop-i-preserved g c =
    let next = map-next (write_row c.args.app) c.loop-i.i c.args.writes.now c.get.result.now
    c.write_line.new.buf (omega arith) c.get.ensures c.write_line.ensures in
    Goes-next c.loop-i.invariant next c.in_ok-put_line.ensures.whole

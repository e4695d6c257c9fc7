use Rattle.std.proofs.Common.{rules, arith, ◌+◌, drop}
use Rattle.report.specs.Lines.{cpu_row}
use Rattle.report.specs.Report.{numbered}
use Rattle.report.specs.Texts.{text_of}
use Rattle.report.proofs.RowsLemmas.{numbered-next}
use Rattle.report.proofs.WrittenLemmas.{Goes-next, Goes-stop}
use Rattle.report.proofs.sections.write_cpus.Goals as goal

pub returns-in_err-put_line-clause-part : goal.returns-in_err-put_line-clause-part
returns-in_err-put_line-clause-part g c =
    let next = numbered-next cpu_row c.loop-cpu.cpu c.args.lanes.now c.get.result.now
    c.cpu_line.new.buf (omega arith) c.get.ensures c.cpu_line.ensures in
    let found = Goes-stop
    (text_of (numbered cpu_row (c.loop-cpu.cpu + 1)
    (drop (c.loop-cpu.cpu + 1) c.args.lanes.now))) c.loop-cpu.invariant next
    c.in_err-put_line.ensures.part in
    search (rules, found)

pub loop-cpu-preserved : goal.loop-cpu-preserved
loop-cpu-preserved g c =
    let next = numbered-next cpu_row c.loop-cpu.cpu c.args.lanes.now c.get.result.now
    c.cpu_line.new.buf (omega arith) c.get.ensures c.cpu_line.ensures in
    Goes-next c.loop-cpu.invariant next c.in_ok-put_line.ensures.whole

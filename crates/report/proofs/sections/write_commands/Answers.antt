use Rattle.std.proofs.Common.{rules, arith, ◌+◌, drop}
use Rattle.report.specs.Commands.{command_row}
use Rattle.report.specs.Report.{numbered}
use Rattle.report.specs.Texts.{text_of}
use Rattle.report.proofs.RowsLemmas.{numbered-next}
use Rattle.report.proofs.WrittenLemmas.{Goes-next, Goes-stop}
use Rattle.report.proofs.sections.write_commands.Goals as goal

pub returns-in_err-put_line-clause-part : goal.returns-in_err-put_line-clause-part
returns-in_err-put_line-clause-part g c =
    let next = numbered-next command_row c.loop-number.number c.args.commands.now c.get.result.now
    c.command_line.new.buf (omega arith) c.get.ensures c.command_line.ensures in
    let found = Goes-stop (text_of (numbered command_row (c.loop-number.number + 1)
    (drop (c.loop-number.number + 1) c.args.commands.now))) c.loop-number.invariant next
    c.in_err-put_line.ensures.part in
    search (rules, found)

pub loop-number-preserved : goal.loop-number-preserved
loop-number-preserved g c =
    let next = numbered-next command_row c.loop-number.number c.args.commands.now c.get.result.now
    c.command_line.new.buf (omega arith) c.get.ensures c.command_line.ensures in
    Goes-next c.loop-number.invariant next c.in_ok-put_line.ensures.whole

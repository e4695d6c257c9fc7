use Rattle.std.proofs.Common.{◌+◌, ◌∙◌, ap, get_or, rules, arith, drop, length, map}
use Rattle.report.specs.Lines.{packet_row}
use Rattle.report.specs.Texts.{text_of}
use Rattle.report.proofs.RowsLemmas.{map-next}
use Rattle.report.proofs.WrittenLemmas.{Goes-next, Goes-stop}
use Rattle.report.proofs.sections.write_packets.Goals as goal

pub line-requires : goal.line-requires
line-requires g c =
    omega (arith, c.loop-id-test.true, c.requires, ap length c.loop-id.invariant.lines)

pub returns-in_err-put_line-clause-part : goal.returns-in_err-put_line-clause-part
returns-in_err-put_line-clause-part g c =
    let at = c.line.ensures.line
    ∙ ap (λ lines. get_or lines c.loop-id.id c.line.result) c.loop-id.invariant.lines in
    let next = map-next packet_row c.loop-id.id c.args.lines.now.packets c.line.result
    c.packet_line.new.buf (omega arith) at c.packet_line.ensures in
    let found = Goes-stop
    (text_of (map packet_row (drop (c.loop-id.id + 1) c.args.lines.now.packets)))
    c.loop-id.invariant.goes next c.in_err-put_line.ensures.part in
    search (rules, found)

pub loop-id-preserved : goal.loop-id-preserved
loop-id-preserved g c =
    let at = c.line.ensures.line
    ∙ ap (λ lines. get_or lines c.loop-id.id c.line.result) c.loop-id.invariant.lines in
    let next = map-next packet_row c.loop-id.id c.args.lines.now.packets c.line.result
    c.packet_line.new.buf (omega arith) at c.packet_line.ensures in
    record {
      lines = c.line.ensures.same ∙ c.loop-id.invariant.lines;
      goes = Goes-next c.loop-id.invariant.goes next c.in_ok-put_line.ensures.whole;
    }

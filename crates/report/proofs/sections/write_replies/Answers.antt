use Rattle.std.proofs.Common.{◌<◌, ◌+◌, ◌∙◌, None, ap, get_or, rules, arith, drop, length}
use Rattle.std.proofs.lemmas.List.{get_or_default}
use Rattle.report.specs.Report.{reply_rows}
use Rattle.report.specs.Texts.{text_of}
use Rattle.report.proofs.RowsLemmas.{replies-next}
use Rattle.report.proofs.WrittenLemmas.{Goes-next, Goes-stop}
use Rattle.report.proofs.sections.write_replies.Goals as goal

pub returns-in_err-write_reply-clause-part : goal.returns-in_err-write_reply-clause-part
returns-in_err-write_reply-clause-part g c =
    let xs = c.args.lines.now.replies in
    let below : c.loop-id.id < length xs = omega arith in
    let at = c.line.ensures.line ∙ ap (λ lines. get_or lines c.loop-id.id None)
    c.loop-id.invariant.lines ∙ get_or_default xs c.loop-id.id None c.line.result below in
    let next = replies-next c.loop-id.id c.args.lines.now.replies c.line.result below at in
    let found = Goes-stop (text_of (reply_rows (drop (c.loop-id.id + 1) c.args.lines.now.replies)))
    c.loop-id.invariant.goes next c.in_err-write_reply.ensures.part in
    search (rules, found)

pub loop-id-preserved : goal.loop-id-preserved
loop-id-preserved g c =
    let xs = c.args.lines.now.replies in
    let below : c.loop-id.id < length xs = omega arith in
    let at = c.line.ensures.line ∙ ap (λ lines. get_or lines c.loop-id.id None)
    c.loop-id.invariant.lines ∙ get_or_default xs c.loop-id.id None c.line.result below in
    let next = replies-next c.loop-id.id c.args.lines.now.replies c.line.result below at in
    record {
      lines = c.line.ensures.same ∙ c.loop-id.invariant.lines;
      goes = Goes-next c.loop-id.invariant.goes next c.in_ok-write_reply.ensures.whole;
    }

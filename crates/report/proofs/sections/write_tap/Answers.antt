use Rattle.std.proofs.Common.{rules, ap, ◌++◌}
use Rattle.report.specs.Texts.{row_text}
use Rattle.report.specs.Texts.Row.{Tap}
use Rattle.report.proofs.WrittenLemmas.{Stopped-is, Stopped-more, Stopped-then}
use Rattle.report.proofs.sections.write_tap.Goals as goal

pub returns-in_err-put_line-clause-part : goal.returns-in_err-put_line-clause-part
returns-in_err-put_line-clause-part g c =
    let bytes = c.as_slice-bytes.result.now in
    let found = Stopped-is (row_text (Tap c.args.tap bytes))
    (ap (λ r. r ++ bytes) c.tap_line.ensures)
    (Stopped-more bytes c.in_err-put_line.ensures.part) in
    search (rules, found, c.as_slice-bytes.ensures.value)

pub returns-in_err-put_text-clause-part : goal.returns-in_err-put_text-clause-part
returns-in_err-put_text-clause-part g c =
    let bytes = c.as_slice-bytes.result.now in
    let found = Stopped-is (row_text (Tap c.args.tap bytes))
    (ap (λ r. r ++ bytes) c.tap_line.ensures)
    (Stopped-then c.in_ok-put_line.ensures.whole c.in_err-put_text.ensures.part) in
    search (rules, found, c.as_slice-bytes.ensures.value)

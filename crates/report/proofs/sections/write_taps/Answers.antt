use Rattle.std.proofs.Common.{rules, arith, refl, ◌+◌, drop}
use Rattle.report.specs.Report.{numbered}
use Rattle.report.specs.Texts.{row_text, text_of}
use Rattle.report.specs.Texts.Row.{Tap}
use Rattle.report.proofs.RowsLemmas.{numbered-next}
use Rattle.report.proofs.WrittenLemmas.{Goes-next, Goes-stop}
use Rattle.report.proofs.sections.write_taps.Goals as goal

pub returns-in_err-write_tap-clause-part : goal.returns-in_err-write_tap-clause-part
returns-in_err-write_tap-clause-part g c =
    let tap = c.loop-tap.tap in
    let text = c.index-texts-tap.result in
    let next = numbered-next Tap tap c.args.texts.now text (row_text (Tap tap text))
    (omega arith) c.index-texts-tap.is refl in
    let found = Goes-stop (text_of (numbered Tap (tap + 1) (drop (tap + 1) c.args.texts.now)))
    c.loop-tap.invariant next c.in_err-write_tap.ensures.part in
    search (rules, found)

pub loop-tap-preserved : goal.loop-tap-preserved
loop-tap-preserved g c =
    let tap = c.loop-tap.tap in
    let text = c.index-texts-tap.result in
    let next = numbered-next Tap tap c.args.texts.now text (row_text (Tap tap text))
    (omega arith) c.index-texts-tap.is refl in
    Goes-next c.loop-tap.invariant next c.in_ok-write_tap.ensures.whole

use Rattle.std.proofs.Common.{rules, sym, ◌++◌}
use Rattle.report.specs.Parts.{events_text, sums_text}
use Rattle.report.specs.Report.{rows_of}
use Rattle.report.specs.Texts.{text_of}
use Rattle.report.proofs.RowsLemmas.{report-parts}
use Rattle.report.proofs.WrittenLemmas.{Stopped-is, Stopped-more, Stopped-then, Wrote-is}
use Rattle.report.proofs.WrittenLemmas.{Wrote-then}
use Rattle.report.proofs.whole.render.Goals as goal

pub returns-in_err-render_packets-clause-part : goal.returns-in_err-render_packets-clause-part
returns-in_err-render_packets-clause-part g c =
    let lines = c.args.lines.now in
    let h = c.args.h.now in
    let texts = c.args.texts.now in
    let all = Stopped-more (sums_text lines h ++ events_text h texts)
    c.in_err-render_packets.ensures.part in
    let found = (Stopped-is (text_of (rows_of lines h texts))
    (sym (report-parts lines h texts)) all).part in
    search (rules, found)

pub returns-in_err-render_sums-clause-part : goal.returns-in_err-render_sums-clause-part
returns-in_err-render_sums-clause-part g c =
    let lines = c.args.lines.now in
    let h = c.args.h.now in
    let texts = c.args.texts.now in
    let all = Stopped-then c.in_ok-render_packets.ensures.whole
    (Stopped-more (events_text h texts) c.in_err-render_sums.ensures.part) in
    let found = (Stopped-is (text_of (rows_of lines h texts))
    (sym (report-parts lines h texts)) all).part in
    search (rules, found)

pub returns-in_err-render_events-clause-part : goal.returns-in_err-render_events-clause-part
returns-in_err-render_events-clause-part g c =
    let lines = c.args.lines.now in
    let h = c.args.h.now in
    let texts = c.args.texts.now in
    let all = Stopped-then c.in_ok-render_packets.ensures.whole
    (Stopped-then c.in_ok-render_sums.ensures.whole c.in_err-render_events.ensures.part) in
    let found = (Stopped-is (text_of (rows_of lines h texts))
    (sym (report-parts lines h texts)) all).part in
    search (rules, found)

pub returns-clause-whole : goal.returns-clause-whole
returns-clause-whole g c =
    let lines = c.args.lines.now in
    let h = c.args.h.now in
    let texts = c.args.texts.now in
    let all = Wrote-then c.in_ok-render_packets.ensures.whole
    (Wrote-then c.in_ok-render_sums.ensures.whole c.in_ok-render_events.ensures.whole) in
    (Wrote-is (text_of (rows_of lines h texts)) (sym (report-parts lines h texts)) all).whole

use Rattle.std.proofs.Common.{◌≡◌, rules, ap, ◌++◌, ◌∙◌, length}
use Rattle.report.specs.Lines.{end_row}
use Rattle.report.specs.Report.{tap_rows}
use Rattle.report.specs.Texts.{row_text, text_of}
use Rattle.report.proofs.WrittenLemmas.{Stopped-is, Stopped-more, Stopped-then}
use Rattle.report.proofs.whole.render_events.Goals as goal

pub returns-in_err-write_commands-clause-part : goal.returns-in_err-write_commands-clause-part
returns-in_err-write_commands-clause-part g c =
    let h = c.args.h.now in
    let more = text_of (tap_rows c.args.texts.now) ++ row_text
    (end_row (length h.arrivals) h.total h.cut) in
    let found = Stopped-then c.in_ok-write_sock_writes.ensures.whole
    (Stopped-more more c.in_err-write_commands.ensures.part) in
    search (rules, found)

pub returns-in_err-write_taps-clause-part : goal.returns-in_err-write_taps-clause-part
returns-in_err-write_taps-clause-part g c =
    let h = c.args.h.now in
    let more = row_text (end_row (length h.arrivals) h.total h.cut) in
    let taps = Stopped-then c.in_ok-write_commands.ensures.whole
    (Stopped-more more c.in_err-write_taps.ensures.part) in
    let found = Stopped-then c.in_ok-write_sock_writes.ensures.whole taps in
    search (rules, found)

pub returns-in_err-put_line-clause-part : goal.returns-in_err-put_line-clause-part
returns-in_err-put_line-clause-part g c =
    let h = c.args.h.now in
    let line : c.end_line.new.buf ≡ row_text (end_row (length h.arrivals) h.total h.cut)
    = c.end_line.ensures ∙ ap (λ n. row_text (end_row n h.total h.cut)) c.len.ensures in
    let last = Stopped-is (row_text (end_row (length h.arrivals) h.total h.cut)) line
    c.in_err-put_line.ensures.part in
    let taps = Stopped-then c.in_ok-write_commands.ensures.whole
    (Stopped-then c.in_ok-write_taps.ensures.whole last) in
    let found = Stopped-then c.in_ok-write_sock_writes.ensures.whole taps in
    search (rules, found)

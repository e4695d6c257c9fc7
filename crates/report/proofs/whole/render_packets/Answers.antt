use Rattle.std.proofs.Common.{rules, sym, ◌++◌, ◌∙◌}
use Rattle.report.specs.Report.{first_row, packet_rows, reply_rows}
use Rattle.report.specs.Texts.{row_text, text_of}
use Rattle.report.proofs.RowsLemmas.{packets-made, replies-made}
use Rattle.report.proofs.WrittenLemmas.{Stopped-is, Stopped-more, Stopped-then, Wrote-is}
use Rattle.report.proofs.whole.render_packets.Goals as goal

pub write_packets-requires : goal.write_packets-requires
write_packets-requires g c = c.len-arrived.ensures
    ∙ sym (packets-made c.args.lines.now c.args.h.now c.requires)

pub write_replies-requires : goal.write_replies-requires
write_replies-requires g c = c.len-arrived.ensures
    ∙ sym (replies-made c.args.lines.now c.args.h.now c.requires)

pub returns-in_err-put_line-clause-part : goal.returns-in_err-put_line-clause-part
returns-in_err-put_line-clause-part g c =
    let first = Stopped-is (row_text first_row) c.first_line.ensures
    c.in_err-put_line.ensures.part in
    let found = Stopped-more (text_of (packet_rows c.args.lines.now.packets)
    ++ text_of (reply_rows c.args.lines.now.replies)) first in
    search (rules, found)

pub returns-in_err-write_packets-clause-part : goal.returns-in_err-write_packets-clause-part
returns-in_err-write_packets-clause-part g c =
    let first = Wrote-is (row_text first_row) c.first_line.ensures c.in_ok-put_line.ensures.whole in
    let found = Stopped-then first (Stopped-more (text_of (reply_rows c.args.lines.now.replies))
    c.in_err-write_packets.ensures.part) in
    search (rules, found)

pub returns-in_err-write_replies-clause-part : goal.returns-in_err-write_replies-clause-part
returns-in_err-write_replies-clause-part g c =
    let first = Wrote-is (row_text first_row) c.first_line.ensures c.in_ok-put_line.ensures.whole in
    let found = Stopped-then first
    (Stopped-then c.in_ok-write_packets.ensures.whole c.in_err-write_replies.ensures.part) in
    search (rules, found)

use Rattle.std.proofs.Common.{rules}
use Rattle.report.specs.Report.{tx_rows}
use Rattle.report.specs.Texts.{text_of}
use Rattle.report.proofs.RowsLemmas.{arrived-made}
use Rattle.report.proofs.WrittenLemmas.{Stopped-more, Stopped-then}
use Rattle.report.proofs.whole.render_sums.Goals as goal

pub write_queues-requires : goal.write_queues-requires
write_queues-requires g c = arrived-made c.args.lines.now c.args.h.now c.requires

pub returns-in_err-write_cpus-clause-part : goal.returns-in_err-write_cpus-clause-part
returns-in_err-write_cpus-clause-part g c =
    let found = Stopped-then c.in_ok-write_queues.ensures.whole
    (Stopped-more (text_of (tx_rows c.args.h.now.tx_lanes)) c.in_err-write_cpus.ensures.part) in
    search (rules, found)

pub returns-in_err-write_txs-clause-part : goal.returns-in_err-write_txs-clause-part
returns-in_err-write_txs-clause-part g c =
    let found = Stopped-then c.in_ok-write_queues.ensures.whole
    (Stopped-then c.in_ok-write_cpus.ensures.whole c.in_err-write_txs.ensures.part) in
    search (rules, found)

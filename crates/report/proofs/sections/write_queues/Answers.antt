use Rattle.std.proofs.Common.{ℕ, ◌≡◌, ◌+◌, rules, arith, drop}
use Rattle.std.specs.Prelude.{slice_index}
use Rattle.report.specs.Lines.{queue_row}
use Rattle.report.specs.Report.{numbered}
use Rattle.report.specs.Texts.{row_text, text_of}
use Rattle.report.proofs.RowsLemmas.{numbered-next}
use Rattle.report.proofs.WrittenLemmas.{Goes-next, Goes-stop}
use Rattle.report.proofs.sections.write_queues.Goals as goal

pub returns-in_err-put_line-clause-part : goal.returns-in_err-put_line-clause-part
returns-in_err-put_line-clause-part g c =
    let row = λ (queue count : ℕ). queue_row queue (slice_index c.args.lines.now.arrived queue)
    count in
    let queue = c.loop-queue.queue in
    let line : c.queue_line.new.buf ≡ row_text (row queue c.get.result.now) =
    rw (c.from.ensures, c.from-in-loop-queue.ensures, c.arrived_at.ensures) at
    c.queue_line.ensures in
    let next = numbered-next row queue c.args.taken.now c.get.result.now c.queue_line.new.buf
    (omega arith) c.get.ensures line in
    let found = Goes-stop (text_of (numbered row (queue + 1) (drop (queue + 1) c.args.taken.now)))
    c.loop-queue.invariant next c.in_err-put_line.ensures.part in
    search (rules, found)

pub loop-queue-preserved : goal.loop-queue-preserved
loop-queue-preserved g c =
    let row = λ (queue count : ℕ). queue_row queue (slice_index c.args.lines.now.arrived queue)
    count in
    let queue = c.loop-queue.queue in
    let line : c.queue_line.new.buf ≡ row_text (row queue c.get.result.now) =
    rw (c.from.ensures, c.from-in-loop-queue.ensures, c.arrived_at.ensures) at
    c.queue_line.ensures in
    let next = numbered-next row queue c.args.taken.now c.get.result.now c.queue_line.new.buf
    (omega arith) c.get.ensures line in
    Goes-next c.loop-queue.invariant next c.in_ok-put_line.ensures.whole

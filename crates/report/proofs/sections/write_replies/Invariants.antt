use Rattle.std.proofs.Common.{◌≡◌, drop}
use Rattle.report.specs.Report.{reply_rows}
use Rattle.report.specs.Texts.{text_of}
use Rattle.report.proofs.WrittenLemmas.{Goes}
use Rattle.report.proofs.sections.write_replies.Given as goal

-- the lines are still those, and the rows of the replies from this one on are left
abbrev pub invariant-loop-id : goal.invariant-loop-id
invariant-loop-id g l = record {
  lines : l.replies ≡ l.fn.lines.replies;
  goes : Goes (g.K.Sink.written l.initial.out) (g.K.Sink.written l.out)
      (g.K.Sink.faults l.initial.out) (g.K.Sink.faults l.out)
      (text_of (reply_rows l.fn.lines.replies))
      (text_of (reply_rows (drop l.id l.fn.lines.replies)));
}

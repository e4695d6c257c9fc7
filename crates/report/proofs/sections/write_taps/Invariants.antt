use Rattle.std.proofs.Common.{drop}
use Rattle.report.specs.Report.{numbered, tap_rows}
use Rattle.report.specs.Texts.Row.{Tap}
use Rattle.report.specs.Texts.{text_of}
use Rattle.report.proofs.WrittenLemmas.{Goes}
use Rattle.report.proofs.sections.write_taps.Given as goal

-- the rows of the taps from this one on are left
abbrev pub invariant-loop-tap : goal.invariant-loop-tap
invariant-loop-tap g l =
    Goes (g.K.Sink.written l.initial.out) (g.K.Sink.written l.out) (g.K.Sink.faults l.initial.out)
    (g.K.Sink.faults l.out)
    (text_of (tap_rows l.texts)) (text_of (numbered Tap l.tap (drop l.tap l.texts)))

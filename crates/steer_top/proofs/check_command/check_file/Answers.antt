use Rattle.std.proofs.Common.{[], ◌∷◌, refl}
use Rattle.std.proofs.KnownBytes.{Keeps-refl}
use Rattle.plan_reader.specs.PlanTexts.{settings_of}
use Rattle.report_verdict.specs.VerdictText.{verdict_text}
use Rattle.steer_top.specs.Commands.{check_words_of}
use Rattle.steer_top.specs.Words.CommandWords.{Check}
use Rattle.steer_top.specs.declared.ending.Role.TheVariants as role
use Rattle.steer_top.proofs.Checks.{line-is}
use Rattle.steer_top.proofs.Commands.{check_files, check_gave, ends_at, ends_written}
use Rattle.steer_top.proofs.Commands.{stops_later, told_bytes}
use Rattle.steer_top.proofs.check_command.check_file.Goals as goal

pub returns-in-Err-clause-ends : goal.returns-in-Err-clause-ends
returns-in-Err-clause-ends g c = λ taps.
    let words = check_words_of c.args.command.now in
    let old = c.args.desk.now in
    let out = c.args.out.now in
    let held = g.D.Desk.held old in
    let written = g.K.Sink.written out in
    let at = c.in-Err.ensures.ends in
    let (capture, told) = told_bytes (held words.capture) in
    let (report, shown) = told_bytes (held words.report) in
    ends_at (Check words) _ (check_files at.bytes capture report) []
    (role.Capture ∷ role.Report ∷ []) role.Plan words.plan c.in-Err.ending
    (check_gave words held at.bytes capture report at.gave told shown) refl refl tt
    (Keeps-refl written) at.stops

pub returns-in-Err-take_packets-clause-ends : goal.returns-in-Err-take_packets-clause-ends
returns-in-Err-take_packets-clause-ends g c = λ taps.
    let words = check_words_of c.args.command.now in
    let old = c.args.desk.now in
    let mid = c.take_plan.new.desk in
    let new = c.take_packets.new.desk in
    let out = c.args.out.now in
    let held = g.D.Desk.held old in
    let written = g.K.Sink.written out in
    let plan = c.in-Ok.plan in
    let taken = c.in-Ok.ensures.taken in
    let at = c.in-Err-take_packets.ensures.ends in
    let ending = c.in-Err-take_packets.ending in
    let (report, shown) = told_bytes (held words.report) in
    ends_at (Check words) _ (check_files taken.bytes at.bytes report)
    (role.Plan ∷ []) (role.Report ∷ []) role.Capture words.capture ending
    (check_gave words held taken.bytes at.bytes report taken.whole
    (rw c.take_plan.ensures.held at at.gave) shown) refl refl
    ((taken.few, (settings_of plan, taken.has)), tt) (Keeps-refl written)
    (stops_later ending role.Capture words.capture at.bytes (g.D.Desk.faults old)
    (g.D.Desk.faults mid) (g.D.Desk.faults new)
    (g.D.Desk.asked new) c.take_plan.ensures.later at.stops)

pub returns-in-Err-take_report-clause-ends : goal.returns-in-Err-take_report-clause-ends
returns-in-Err-take_report-clause-ends g c = λ taps.
    let words = check_words_of c.args.command.now in
    let old = c.args.desk.now in
    let first = c.take_plan.new.desk in
    let second = c.take_packets.new.desk in
    let new = c.take_report.new.desk in
    let out = c.args.out.now in
    let held = g.D.Desk.held old in
    let written = g.K.Sink.written out in
    let plan = c.in-Ok.plan in
    let taken = c.in-Ok.ensures.taken in
    let has = c.in-Ok-take_packets.ensures.taken in
    let at = c.in-Err-take_report.ensures.ends in
    let ending = c.in-Err-take_report.ending in
    ends_at (Check words) _ (check_files taken.bytes has.bytes at.bytes)
    (role.Plan ∷ role.Capture ∷ []) [] role.Report words.report ending
    (check_gave words held taken.bytes has.bytes at.bytes taken.whole
    (rw c.take_plan.ensures.held at has.whole)
    (rw (c.take_packets.ensures.held, c.take_plan.ensures.held) at at.gave)) refl refl
    ((taken.few, (settings_of plan, taken.has)), ((has.few, (has.capture, has.has)), tt))
    (Keeps-refl written)
    (stops_later ending role.Report words.report at.bytes (g.D.Desk.faults old)
    (g.D.Desk.faults first) (g.D.Desk.faults new) (g.D.Desk.asked new) c.take_plan.ensures.later
    (stops_later ending role.Report words.report at.bytes (g.D.Desk.faults first)
    (g.D.Desk.faults second) (g.D.Desk.faults new) (g.D.Desk.asked new)
    c.take_packets.ensures.later at.stops))

pub returns-in-Ok-judge-clause-ends : goal.returns-in-Ok-judge-clause-ends
returns-in-Ok-judge-clause-ends g c = λ taps.
    let words = check_words_of c.args.command.now in
    let old = c.args.desk.now in
    let new = c.take_report.new.desk in
    let held = g.D.Desk.held old in
    let plan = c.in-Ok.plan in
    let taken = c.in-Ok.ensures.taken in
    let captured = c.in-Ok-take_packets.captured in
    let has = c.in-Ok-take_packets.ensures.taken in
    let report = c.in-Ok-take_report.report in
    let verdict = c.in-Ok-judge.verdict in
    ends_written (Check words) _ (check_files taken.bytes has.bytes report.items)
    (verdict_text verdict) c.write_verdict.result
    (check_gave words held taken.bytes has.bytes report.items taken.whole
    (rw c.take_plan.ensures.held at has.whole)
    (rw (c.take_packets.ensures.held, c.take_plan.ensures.held) at
    c.in-Ok-take_report.ensures.whole)) (
      (taken.few, (settings_of plan, taken.has)),
      (
        (has.few, (has.capture, has.has)),
        ((c.in-Ok-take_report.ensures.few, tt), tt),
      ),
    ) (
      has.capture,
      has.has,
      line-is plan taken.bytes (g.D.Desk.held c.take_plan.new.desk words.capture) captured
          report.items verdict taken.has has
          (rw (c.deref.ensures.value, c.deref-2.ensures.value) at c.in-Ok-judge.ensures),
    )
    c.write_verdict.ensures.ends

pub returns-clause-ends : goal.returns-clause-ends
returns-clause-ends g c = λ taps.
    let words = check_words_of c.args.command.now in
    let held = g.D.Desk.held c.args.desk.now in
    let taken = c.in-Ok.ensures.taken in
    let (capture, told) = told_bytes (held words.capture) in
    let (report, shown) = told_bytes (held words.report) in (
      check_files taken.bytes capture report,
      check_gave words held taken.bytes capture report taken.whole told shown,
      Keeps-refl (g.K.Sink.written c.args.out.now),
    )

use Rattle.std.proofs.Common.{refl}
use Rattle.std.proofs.KnownBytes.{Keeps-refl}
use Rattle.replay.specs.Replays.{shown_text}
use Rattle.steer_top.specs.Commands.{plan_words_of}
use Rattle.steer_top.specs.Words.CommandWords.{Run}
use Rattle.steer_top.proofs.Commands.{ends_at_input, ends_written, run_gave}
use Rattle.steer_top.proofs.Inputs.{accepted, files, report_of_run}
use Rattle.steer_top.proofs.run_command.run_file.Goals as goal

pub returns-in-Err-clause-ends : goal.returns-in-Err-clause-ends
returns-in-Err-clause-ends g c =
    let words = plan_words_of c.args.command.now in
    ends_at_input (Run words) words _ c.in-Err.ending refl refl refl
    (run_gave words (g.D.Desk.held c.args.desk.now)) (Keeps-refl (g.K.Sink.written c.args.out.now))
    c.in-Err.ensures.ends

pub returns-in-Ok-shown_of-clause-ends : goal.returns-in-Ok-shown_of-clause-ends
returns-in-Ok-shown_of-clause-ends g c =
    let words = plan_words_of c.args.command.now in
    let held = g.D.Desk.held c.args.desk.now in
    let input = c.in-Ok.input in
    let taken = c.in-Ok.ensures.taken in
    let shown = c.in-Ok-shown_of.shown in
    ends_written (Run words) _ (files words held input taken) (shown_text shown)
    c.write_report.result
    (run_gave words held taken.plan.bytes taken.packets.bytes taken.plan.whole
    taken.packets.whole)
    (accepted words held input taken) (
      taken.packets.capture,
      taken.packets.has,
      report_of_run words held input taken _ shown c.in-Ok-shown_of.ensures,
    )
    c.write_report.ensures.ends

pub returns-clause-ends : goal.returns-clause-ends
returns-clause-ends g c =
    let words = plan_words_of c.args.command.now in
    let held = g.D.Desk.held c.args.desk.now in
    let input = c.in-Ok.input in
    let taken = c.in-Ok.ensures.taken in (
      files words held input taken,
      run_gave words held taken.plan.bytes taken.packets.bytes taken.plan.whole
          taken.packets.whole,
      Keeps-refl (g.K.Sink.written c.args.out.now),
    )

pub returns-in_default-clause-ends : goal.returns-in_default-clause-ends
returns-in_default-clause-ends g c =
    let words = plan_words_of c.args.command.now in
    let held = g.D.Desk.held c.args.desk.now in
    let input = c.in-Ok.input in
    let taken = c.in-Ok.ensures.taken in (
      files words held input taken,
      run_gave words held taken.plan.bytes taken.packets.bytes taken.plan.whole
          taken.packets.whole,
      Keeps-refl (g.K.Sink.written c.args.out.now),
    )

pub shown_of-requires-clause-by_run : goal.shown_of-requires-clause-by_run
shown_of-requires-clause-by_run g c =
    let input = c.in-Ok.input in
    c.a_run_is_by_its_threads.ensures
    (record {
      plan = input.plan;
      packets = input.captured.packets.items;
      cut = input.captured.cut;
    })
    c.in-Ok-run_threads.history
    (rw c.as_slice-packets.ensures.value at c.in-Ok-run_threads.ensures.run)

use Rattle.std.proofs.Common.{refl}
use Rattle.std.proofs.KnownBytes.{Keeps-refl}
use Rattle.replay.specs.Replays.{shown_text}
use Rattle.steer_top.specs.Commands.{plan_words_of}
use Rattle.steer_top.specs.Words.CommandWords.{Replay}
use Rattle.steer_top.proofs.Commands.{ends_at_input, ends_written, replay_gave}
use Rattle.steer_top.proofs.Inputs.{accepted, files, replay_is, report_of_replay}
use Rattle.steer_top.proofs.replay_command.replay_file.Goals as goal

pub returns-in-Err-clause-ends : goal.returns-in-Err-clause-ends
returns-in-Err-clause-ends g c =
    let words = plan_words_of c.args.command.now in
    ends_at_input (Replay words) words _ c.in-Err.ending refl refl refl
    (replay_gave words (g.D.Desk.held c.args.desk.now))
    (Keeps-refl (g.K.Sink.written c.args.out.now))
    c.in-Err.ensures.ends

pub returns-in-Ok-make-clause-ends : goal.returns-in-Ok-make-clause-ends
returns-in-Ok-make-clause-ends g c =
    let words = plan_words_of c.args.command.now in
    let held = g.D.Desk.held c.args.desk.now in
    let input = c.in-Ok.input in
    let taken = c.in-Ok.ensures.taken in
    let shown = c.in-Ok-make.shown in
    ends_written (Replay words) _ (files words held input taken) (shown_text shown)
    c.write_report.result
    (replay_gave words held taken.plan.bytes taken.packets.bytes taken.plan.whole
    taken.packets.whole)
    (accepted words held input taken) (
      taken.packets.capture,
      taken.packets.has,
      report_of_replay words held input taken _ shown
          (replay_is input.plan input.captured.packets.items input.captured.cut _ _ shown
          (rw c.as_slice-packets.ensures.value at c.in-Ok-play.ensures.is)
          (rw c.as_slice-packets.ensures.value at c.in-Ok-make.ensures.is))
          c.in-Ok-make.ensures.fits,
    )
    c.write_report.ensures.ends

pub returns-clause-ends : goal.returns-clause-ends
returns-clause-ends g c =
    let words = plan_words_of c.args.command.now in
    let held = g.D.Desk.held c.args.desk.now in
    let input = c.in-Ok.input in
    let taken = c.in-Ok.ensures.taken in (
      files words held input taken,
      replay_gave words held taken.plan.bytes taken.packets.bytes taken.plan.whole
          taken.packets.whole,
      Keeps-refl (g.K.Sink.written c.args.out.now),
    )

pub returns-in_default-clause-ends : goal.returns-in_default-clause-ends
returns-in_default-clause-ends g c =
    let words = plan_words_of c.args.command.now in
    let held = g.D.Desk.held c.args.desk.now in
    let input = c.in-Ok.input in
    let taken = c.in-Ok.ensures.taken in (
      files words held input taken,
      replay_gave words held taken.plan.bytes taken.packets.bytes taken.plan.whole
          taken.packets.whole,
      Keeps-refl (g.K.Sink.written c.args.out.now),
    )

use Rattle.std.proofs.Common.{[], ◌∷◌, refl}
use Rattle.std.proofs.KnownBytes.{Keeps-refl}
use Rattle.steer_top.specs.Commands.{place_words_of}
use Rattle.steer_top.specs.Endings.{Course, course_of}
use Rattle.steer_top.specs.PlaceText.{place_text}
use Rattle.steer_top.specs.Words.CommandWords.{Place}
use Rattle.steer_top.specs.declared.ending.Ending.TheVariants as ending
use Rattle.steer_top.specs.declared.ending.Role.TheVariants as role
use Rattle.steer_top.proofs.Commands.{ends_at, ends_written, files_of, place_gave}
use Rattle.steer_top.proofs.Commands.{stops_later, told_bytes}
use Rattle.steer_top.proofs.FrameLists.{placed-text}
use Rattle.steer_top.proofs.place_command.place_file.Goals as goal

pub returns-in-Err-clause-ends : goal.returns-in-Err-clause-ends
returns-in-Err-clause-ends g c = λ taps.
    let words = place_words_of c.args.command.now in
    let old = c.args.desk.now in
    let new = c.take_rules.new.desk in
    let out = c.args.out.now in
    let held = g.D.Desk.held old in
    let written = g.K.Sink.written out in
    let course : Course =
    course_of held taps (g.D.Desk.asked new) (g.D.Desk.faults old) (g.D.Desk.faults new)
    (g.K.Sink.faults out) (g.K.Sink.faults out) written written in
    let at = c.in-Err.ensures.ends in
    let (capture, told) = told_bytes (held words.capture) in
    ends_at (Place words) course (files_of at.bytes capture) []
    (role.Capture ∷ []) role.Rules words.rules c.in-Err.ending
    (place_gave words held at.bytes capture at.gave told) refl refl tt (Keeps-refl written) at.stops

pub returns-in-Err-make-clause-ends : goal.returns-in-Err-make-clause-ends
returns-in-Err-make-clause-ends g c = λ taps.
    let words = place_words_of c.args.command.now in
    let old = c.args.desk.now in
    let new = c.take_rules.new.desk in
    let out = c.args.out.now in
    let held = g.D.Desk.held old in
    let written = g.K.Sink.written out in
    let course : Course =
    course_of held taps (g.D.Desk.asked new) (g.D.Desk.faults old) (g.D.Desk.faults new)
    (g.K.Sink.faults out) (g.K.Sink.faults out) written written in
    let taken = c.in-Ok.ensures.taken in
    let (capture, told) = told_bytes (held words.capture) in
    ends_at (Place words) course (files_of taken.bytes capture) []
    (role.Capture ∷ []) role.Rules words.rules ending.OutOfMemory
    (place_gave words held taken.bytes capture taken.whole told) refl refl tt
    (Keeps-refl written) tt

pub returns-in-Ok-take_frames-clause-ends : goal.returns-in-Ok-take_frames-clause-ends
returns-in-Ok-take_frames-clause-ends g c = λ taps.
    let words = place_words_of c.args.command.now in
    let old = c.args.desk.now in
    let new = c.take_frames.new.desk in
    let out = c.args.out.now in
    let last = c.write_lines.new.out in
    let held = g.D.Desk.held old in
    let course : Course =
    course_of held taps (g.D.Desk.asked new) (g.D.Desk.faults old) (g.D.Desk.faults new)
    (g.K.Sink.faults out) (g.K.Sink.faults last) (g.K.Sink.written out) (g.K.Sink.written last) in
    let rules = c.in-Ok.rules in
    let taken = c.in-Ok.ensures.taken in
    let first = c.in-Ok-make.placer in
    let is = c.in-Ok-take_frames.ensures.taken in
    let text = placed-text first c.take_frames.new.sink is.bytes is.capture
    c.in-Ok-take_frames.cut is.taken is.cut_is in
    ends_written (Place words) course (files_of taken.bytes is.bytes)
    (place_text rules is.bytes is.capture) c.write_lines.result
    (place_gave words held taken.bytes is.bytes taken.whole
    (rw c.take_rules.ensures.held at is.whole))
    ((taken.few, (rules, taken.has)), ((is.few, (is.capture, is.has)), tt))
    (rules, is.capture, taken.has, is.has, refl)
    (rw c.in-Ok-make.ensures.rules at (rw text at c.write_lines.ensures.ends))

pub returns-clause-ends : goal.returns-clause-ends
returns-clause-ends g c = λ taps.
    let words = place_words_of c.args.command.now in
    let old = c.args.desk.now in
    let mid = c.take_rules.new.desk in
    let new = c.take_frames.new.desk in
    let out = c.args.out.now in
    let held = g.D.Desk.held old in
    let written = g.K.Sink.written out in
    let course : Course =
    course_of held taps (g.D.Desk.asked new) (g.D.Desk.faults old) (g.D.Desk.faults new)
    (g.K.Sink.faults out) (g.K.Sink.faults out) written written in
    let rules = c.in-Ok.rules in
    let taken = c.in-Ok.ensures.taken in
    let at = c.in-Err-take_frames.ensures.ends in
    let ending = c.in-Err-take_frames.ending in
    ends_at (Place words) course (files_of taken.bytes at.bytes)
    (role.Rules ∷ []) [] role.Capture words.capture ending
    (place_gave words held taken.bytes at.bytes taken.whole
    (rw c.take_rules.ensures.held at at.gave)) refl refl
    ((taken.few, (rules, taken.has)), tt) (Keeps-refl written)
    (stops_later ending role.Capture words.capture at.bytes (g.D.Desk.faults old)
    (g.D.Desk.faults mid) (g.D.Desk.faults new)
    (g.D.Desk.asked new) c.take_rules.ensures.later at.stops)

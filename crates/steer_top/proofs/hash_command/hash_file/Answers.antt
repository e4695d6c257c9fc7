use Rattle.std.proofs.Common.{[], refl}
use Rattle.std.proofs.KnownBytes.{Keeps-refl}
use Rattle.steer_top.specs.Commands.{hash_words_of}
use Rattle.steer_top.specs.Endings.{Course, course_of}
use Rattle.steer_top.specs.HashText.{capture_text}
use Rattle.steer_top.specs.Words.CommandWords.{Hash}
use Rattle.steer_top.specs.declared.ending.Ending.TheVariants as ending
use Rattle.steer_top.specs.declared.ending.Role.TheVariants as role
use Rattle.steer_top.proofs.Commands.{ends_at, ends_written, files_of, hash_gave, told_bytes}
use Rattle.steer_top.proofs.FrameLists.{hashed-text}
use Rattle.steer_top.proofs.hash_command.hash_file.Goals as goal

pub returns-in-Err-clause-ends : goal.returns-in-Err-clause-ends
returns-in-Err-clause-ends g c = λ taps.
    let words = hash_words_of c.args.command.now in
    let old = c.args.desk.now in
    let out = c.args.out.now in
    let held = g.D.Desk.held old in
    let written = g.K.Sink.written out in
    let course : Course =
    course_of held taps (g.D.Desk.asked old) (g.D.Desk.faults old) (g.D.Desk.faults old)
    (g.K.Sink.faults out) (g.K.Sink.faults out) written written in
    let (capture, told) = told_bytes (held words.capture) in
    ends_at (Hash words) course
    (files_of [] capture) [] [] role.Capture words.capture ending.OutOfMemory
    (hash_gave words held [] capture told) refl refl tt (Keeps-refl written) tt

pub returns-in-Ok-take_frames-clause-ends : goal.returns-in-Ok-take_frames-clause-ends
returns-in-Ok-take_frames-clause-ends g c = λ taps.
    let words = hash_words_of c.args.command.now in
    let old = c.args.desk.now in
    let new = c.take_frames.new.desk in
    let out = c.args.out.now in
    let last = c.write_lines.new.out in
    let held = g.D.Desk.held old in
    let course : Course =
    course_of held taps (g.D.Desk.asked new) (g.D.Desk.faults old) (g.D.Desk.faults new)
    (g.K.Sink.faults out) (g.K.Sink.faults last) (g.K.Sink.written out) (g.K.Sink.written last) in
    let first = c.in-Ok.hasher in
    let is = c.in-Ok-take_frames.ensures.taken in
    let text = hashed-text first c.take_frames.new.sink is.bytes is.capture
    c.in-Ok-take_frames.cut is.taken is.cut_is in
    ends_written (Hash words) course (files_of [] is.bytes)
    (capture_text words.queues words.kinds is.bytes is.capture)
    c.write_lines.result (hash_gave words held [] is.bytes is.whole)
    ((is.few, (is.capture, is.has)), tt) (is.capture, is.has, refl)
    (rw (c.in-Ok.ensures.kinds, c.in-Ok.ensures.table) at (rw text at c.write_lines.ensures.ends))

pub returns-clause-ends : goal.returns-clause-ends
returns-clause-ends g c = λ taps.
    let words = hash_words_of c.args.command.now in
    let old = c.args.desk.now in
    let new = c.take_frames.new.desk in
    let out = c.args.out.now in
    let held = g.D.Desk.held old in
    let written = g.K.Sink.written out in
    let course : Course =
    course_of held taps (g.D.Desk.asked new) (g.D.Desk.faults old) (g.D.Desk.faults new)
    (g.K.Sink.faults out) (g.K.Sink.faults out) written written in
    let at = c.in-Err-take_frames.ensures.ends in
    ends_at (Hash words) course
    (files_of [] at.bytes) [] [] role.Capture words.capture c.in-Err-take_frames.ending
    (hash_gave words held [] at.bytes at.gave) refl refl tt (Keeps-refl written) at.stops

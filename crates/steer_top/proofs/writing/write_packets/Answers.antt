use Rattle.std.proofs.Common.{◌++◌, arith, subst, sym, ap, ◌∙◌}
use Rattle.std.specs.Io.KnownBytes.{Appends}
use Rattle.std.proofs.KnownBytes.{Appends-nil, Appends-trans}
use Rattle.outside_io.specs.Sink.{AppendsSome}
use Rattle.steer_top.specs.HashText.{numbered_lines}
use Rattle.steer_top.proofs.Lines.{numbered_lines-next, numbered_lines-split}
use Rattle.steer_top.proofs.Tellings.{AppendsSome-first, AppendsSome-next, OnErr-of}
use Rattle.steer_top.proofs.writing.write_packets.Goals as goal

pub loop-number-init : goal.loop-number-init
unfolding numbered_lines
loop-number-init g c = record {
  empty = c.requires.empty;
  written = Appends-nil (g.K.Sink.written c.args.out.now);
  later = omega arith;
}

pub returns-in_err-write-clause-part : goal.returns-in_err-write-clause-part
returns-in_err-write-clause-part g c =
    let text = g.P.PacketLine.text c.args.packets.now in
    let n = c.loop-number.number in
    let before = g.K.Sink.written c.args.out.now in
    let after = g.K.Sink.written c.write.new.out in
    let so_far = numbered_lines text n in
    let some = AppendsSome-next before
    (g.K.Sink.written c.loop-number.out) after so_far c.push_line.new.line
    c.loop-number.invariant.written c.in_err-write.ensures.part in
    let (rest, split) = numbered_lines-split text n
    (g.P.PacketLine.count c.args.packets.now)
    (rw c.len-number-end.ensures at c.loop-number-test.true) in
    OnErr-of c.from_residual.result _
    (subst (AppendsSome before after)
    (ap (λ t. (so_far ++ t) ++ rest) c.push_line.ensures ∙ sym split)
    (AppendsSome-first before after (so_far ++ c.push_line.new.line) rest some))

pub loop-number-preserved : goal.loop-number-preserved
loop-number-preserved g c =
    let text = g.P.PacketLine.text c.args.packets.now in
    let n = c.loop-number.number in
    let before = g.K.Sink.written c.args.out.now in
    let after = g.K.Sink.written c.write.new.out in
    let so_far = numbered_lines text n in
    record {
      empty = c.in_ok-write.ensures.cleared;
      written = subst (Appends before after)
          (ap (λ t. so_far ++ t) c.push_line.ensures ∙ sym (numbered_lines-next text n))
          (Appends-trans before
          (g.K.Sink.written c.loop-number.out) after so_far c.push_line.new.line
          c.loop-number.invariant.written c.in_ok-write.ensures.whole);
      later = omega (arith, c.loop-number.invariant.later, c.in_ok-write.ensures.later);
    }

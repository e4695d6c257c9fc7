use Rattle.std.proofs.Common.{◌++◌, ap, ◌∙◌, subst}
use Rattle.outside_io.specs.Sink.{AppendsSome}
use Rattle.steer_top.specs.HashText.{numbered_text, numbered_lines, count_line}
use Rattle.steer_top.proofs.Tellings.{AppendsSome-next, OnErr-map}
use Rattle.steer_top.proofs.writing.write_text.Goals as goal

pub returns-clause-part : goal.returns-clause-part
unfolding numbered_text
returns-clause-part g c =
    let before = g.K.Sink.written c.args.out.now in
    let after = g.K.Sink.written c.write.new.out in
    let lines = numbered_lines
    (g.P.PacketLine.text c.args.packets.now) (g.P.PacketLine.count c.args.packets.now) in
    let count = c.push_count.ensures ∙ ap (λ n. count_line n c.args.cut) c.len.ensures in
    OnErr-map c.write.result _ _
    (λ part. subst (AppendsSome before after) (ap (λ t. lines ++ t) count)
    (AppendsSome-next before
    (g.K.Sink.written c.write_packets.new.out) after lines c.push_count.new.line
    c.in_ok-write_packets.ensures.whole part))
    c.write.ensures.part

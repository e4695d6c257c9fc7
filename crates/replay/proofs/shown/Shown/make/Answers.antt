use Rattle.std.proofs.Common.{refl}
use Rattle.replay.proofs.TextsLemmas.{shown_is}
use Rattle.replay.proofs.shown.Shown.make.Goals as goal

pub returns-clause-is : goal.returns-clause-is
returns-clause-is g c =
    let plan = c.args.plan.now in
    let packets = c.args.packets.now in
    let told = rw c.as_slice.ensures at c.in_ok-texts.ensures in
    let made = rw c.len.ensures at c.in_ok-lines.ensures.lines in
    shown_is plan packets _ c.args.taps.items _ _ _ _ refl made told

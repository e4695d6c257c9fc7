use Rattle.std.proofs.Common.{◌+◌, ◌∙◌, ap, sym}
use Rattle.taps.specs.Shown.{lines_left, text_of}
use Rattle.taps.proofs.ShownLemmas.{next_shown}
use Rattle.taps.proofs.feeding.note_next.Goals as goal

pub returns-in_ok-finish_at : goal.returns-in_ok-finish_at
returns-in_ok-finish_at g c = λ lines there is.
    let was = c.in-Watching in
    c.in_ok-finish_at.ensures lines
    ∙ c.in_ok-note_one.ensures (lines_left was.count (c.args.id + 1) lines)
    ∙ ap (λ shown. (g.dyn-1.0.entry was.tap.vtable).1.text was.tap.value shown)
    (sym (next_shown lines c.args.id was.count c.args.line.now c.if-id-count.true there is))
    ∙ ap (text_of (λ tap count. (g.dyn-1.0.entry tap.vtable).1.text tap.value
    (lines_left count c.args.id lines))) (sym was.is)

use Rattle.std.proofs.Common.{◌∙◌, ◌∷◌, ◌+◌, ap, arith, drop, sym}
use Rattle.std.proofs.lemmas.List.{drop_more}
use Rattle.report_history.specs.Shown.{arrival_via, arrivals_from}
use Rattle.report_history.proofs.ChoicesLemmas.{none-left}
use Rattle.report_history.proofs.arrivals.arrival_at.Goals as goal

pub returns-then-x-len : goal.returns-then-x-len
returns-then-x-len c =
    let seen = c.args.seen.now in
    let x = c.args.x in
    ap (arrivals_from x) (none-left seen x (omega (arith, c.if-x-len.true, c.len.ensures)))
    ∙ sym (ap (arrivals_from (x + 1))
    (none-left seen (x + 1) (omega (arith, c.if-x-len.true, c.len.ensures))))

pub returns : goal.returns
returns c =
    let seen = c.args.seen.now in
    let x = c.args.x in
    let line = c.at-line.result in
    let rest = arrivals_from (x + 1) (drop (x + 1) seen) in
    ap (arrivals_from x) (drop_more seen x line (omega (arith, c.if-x-len.false, c.len.ensures)))
    ∙ ap (λ s. arrival_via x s.packet.queue s.packet.via ∷ rest) (sym c.at-line.ensures)
    ∙ ap (λ a. a ∷ rest) (sym c.arrival_via.ensures)

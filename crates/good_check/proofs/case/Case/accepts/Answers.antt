use Rattle.std.proofs.Common.{◌∙◌, None, ap, get_or, length}
use Rattle.std.specs.Option.{is_some}
use Rattle.good_check.specs.Positions.{position_in}
use Rattle.good_check.proofs.PositionsLemmas.{position-known}
use Rattle.good_check.proofs.case.Case.accepts.Goals as goal

pub returns : goal.returns
returns c =
    let case = c.args.self.now in
    let chosen = c.args.chosen.now in
    let h = case.h.now in
    let known = case.known.now in
    let lane = chosen.choice.lane in
    c.is_some.ensures
    ∙ ap is_some (c.position_in.ensures
    ∙ ap (λ o. position_in h.start o c.get-2.result lane) c.get.ensures
    ∙ ap (λ o. position_in h.start (get_or known.lanes chosen.id None) o lane) c.get-2.ensures
    ∙ position-known case.given.now.packets (length case.plan.now.apps) h
    c.requires.plain.regular known case.is_known chosen)

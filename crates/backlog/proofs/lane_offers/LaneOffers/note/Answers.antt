use Rattle.std.proofs.Common.{◌≡◌, sym, ap, ◌∙◌}
use Rattle.steer_base.specs.Drops.{window}
use Rattle.backlog.specs.Offered.{window_after}
use Rattle.backlog.proofs.OffersLemmas.{count_in_window, window-grown}
use Rattle.backlog.proofs.lane_offers.LaneOffers.note.Goals as goal

pub invariant_of-self-2 : goal.invariant_of-self-2
invariant_of-self-2 c =
    let past = c.self.inside.buckets in
    let was : c.in-Some.window ≡ window past = rw c.in-Some.is at c.self.invariant in
    rw (c.push.ensures, c.note.ensures.window) (ap (λ w. window_after w c.args.bucket) was
    ∙ sym (window-grown past c.args.bucket))

pub returns-clause-count : goal.returns-clause-count
returns-clause-count c =
    let past = c.self.inside.buckets in
    let was : c.in-Some.window ≡ window past = rw c.in-Some.is at c.self.invariant in
    rw (← c.self.view_is, c.in-Some.is) (c.note.ensures.count
    ∙ count_in_window past c.args.bucket c.note.new.self (c.note.ensures.window
    ∙ ap (λ w. window_after w c.args.bucket) was
    ∙ sym (window-grown past c.args.bucket)))

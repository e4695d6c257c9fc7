use Rattle.std.proofs.Common.{ap, ◌∙◌, subst, length}
use Rattle.std.specs.Slots.{slots_items}
use Rattle.linearization.specs.Closings.{Ends}
use Rattle.linearization.proofs.EndingLemmas.{ends}
use Rattle.linearization.proofs.gathered.Gathered.finish.Goals as goal

pub returns-clause-ends : goal.returns-clause-ends
returns-clause-ends g c = let key = c.args.table.shared.key in let seat = c.self.inside.seat in
    let closed = c.close_with.result in
    let seen = ap (λ v. v.seats) c.self.view_is in
    subst (λ seats. Ends (g.R.StepRule.seats key) (g.R.StepRule.lawful key) seats
    (slots_items closed.words) (slots_items closed.slots)) seen
    (ends (g.R.StepRule.seats key) (g.R.StepRule.lawful key) seat.table_id seat.me.0 seat.id
    (slots_items closed.words) (slots_items closed.slots) (ap (λ seats. length seats) seen
    ∙ c.requires.all) c.close_with.ensures.values.2)

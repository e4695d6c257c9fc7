use Rattle.std.proofs.Common.{ap, ◌∙◌}
use Rattle.linearization.proofs.RuleLemmas.{joins}
use Rattle.linearization.proofs.gathered.Gathered.join.Goals as goal

pub join_seat-requires : goal.join_seat-requires
join_seat-requires g c = let key = c.args.shared.now.key in (
  ap (λ v. v.table) c.self.view_is ∙ c.requires.table,
  ap (λ s. s.table) c.next.view_is ∙ c.requires.next,
  ap (λ m. m.1) c.next.invariant,
  c.requires.words,
  joins (g.R.StepRule.seats key) (g.R.StepRule.lawful key) c.self.inside.seat.id
      c.next.inside.seat.id c.self.inside.seat.me.0 c.next.inside.seat.me.0,
)

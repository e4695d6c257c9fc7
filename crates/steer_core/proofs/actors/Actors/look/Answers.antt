use Rattle.std.proofs.Common.{sym, ◌∙◌}
use Rattle.steer_invariant.proofs.Invariant.RowLemmas.{held_look}
use Rattle.steer_core.proofs.actors.Actors.look.Goals as goal

pub invariant_of-self : goal.invariant_of-self
invariant_of-self c = (
  held_look _ c.args.q c.in-Some.id c.seen_by-want.result (rw (← c.self.view_is) at c.requires)
      (sym c.to_weigh.ensures ∙ c.in-Some.is) c.self.invariant.0,
  c.self.invariant.1,
)

use Rattle.steer_invariant.proofs.Invariant.RowLemmas.{held_tenter}
use Rattle.steer_core.proofs.actors.Actors.tenter.Goals as goal

pub invariant_of-self : goal.invariant_of-self
invariant_of-self c = (
  held_tenter _ c.args.a c.enter.new.self (rw (← c.self.view_is) at c.requires)
      c.enter.ensures.state
      c.self.invariant.0,
  c.self.invariant.1,
)

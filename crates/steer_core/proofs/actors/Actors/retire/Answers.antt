use Rattle.steer_invariant.proofs.Invariant.RowLemmas.{held_retire}
use Rattle.steer_core.proofs.actors.Actors.retire.Goals as goal

pub invariant_of-self : goal.invariant_of-self
invariant_of-self c = (
  held_retire _ c.args.c c.retire.new.self (rw (← c.self.view_is) at c.requires)
      c.retire.ensures.state
      c.self.invariant.0,
  c.self.invariant.1,
)

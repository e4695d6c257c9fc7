use Rattle.steer_invariant.proofs.Invariant.RowLemmas.{held_tretire}
use Rattle.steer_core.proofs.actors.Actors.tretire.Goals as goal

pub invariant_of-self : goal.invariant_of-self
invariant_of-self c = (
  held_tretire _ c.args.t c.retire.new.self (rw (← c.self.view_is) at c.requires)
      c.retire.ensures.state
      c.self.invariant.0,
  c.self.invariant.1,
)

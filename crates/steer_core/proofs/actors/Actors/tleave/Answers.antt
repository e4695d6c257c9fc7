use Rattle.steer_invariant.proofs.Invariant.RowLemmas.{held_tleave}
use Rattle.steer_core.proofs.actors.Actors.tleave.Goals as goal

pub invariant_of-self : goal.invariant_of-self
invariant_of-self c = (
  held_tleave _ c.args.a c.leave.new.self (rw (← c.self.view_is) at c.requires)
      c.leave.ensures.state
      c.self.invariant.0,
  c.self.invariant.1,
)

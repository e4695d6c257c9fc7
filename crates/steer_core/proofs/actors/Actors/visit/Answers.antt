use Rattle.steer_invariant.proofs.Invariant.RowLemmas.{held_visited}
use Rattle.steer_core.proofs.actors.Actors.visit.Goals as goal

pub invariant_of-self : goal.invariant_of-self
invariant_of-self c = (
  held_visited _ c.args.a c.enter.new.self c.leave.new.self (rw (← c.self.view_is) at c.requires)
      (rw c.queues.ensures.value at c.enter.ensures.state)
      (rw c.queues.ensures.value at c.leave.ensures.state)
      c.self.invariant.0,
  c.self.invariant.1,
)

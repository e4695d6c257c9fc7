use Rattle.steer_invariant.proofs.Invariant.RowLemmas.{held_tdeliver}
use Rattle.steer_core.proofs.actors.Actors.tdeliver.Goals as goal

pub invariant_of-self : goal.invariant_of-self
invariant_of-self c = (
  held_tdeliver _ c.args.t c.deliver.new.self (rw (← c.self.view_is) at c.requires)
      c.deliver.ensures.state c.self.invariant.0,
  c.self.invariant.1,
)

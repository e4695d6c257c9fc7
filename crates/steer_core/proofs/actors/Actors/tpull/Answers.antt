use Rattle.steer_invariant.proofs.Invariant.RowLemmas.{held_tpull}
use Rattle.steer_core.proofs.actors.Actors.tpull.Goals as goal

pub invariant_of-self : goal.invariant_of-self
invariant_of-self c = (
  held_tpull _ c.args.t c.pull.new.self (rw (← c.self.view_is) at c.requires) c.pull.ensures.state
      c.self.invariant.0,
  c.self.invariant.1,
)

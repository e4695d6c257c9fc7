use Rattle.steer_invariant.proofs.Invariant.CommandLemmas.{held_sock}
use Rattle.steer_core.proofs.actors.Actors.set_sock.Goals as goal

pub invariant_of-self : goal.invariant_of-self
invariant_of-self c = (
  held_sock _ c.args.size c.change.new.self c.resize.new.self c.requires.named
      (rw (← c.self.view_is) at c.requires.done) c.change.ensures c.resize.ensures
      c.self.invariant.0,
  c.self.invariant.1,
)

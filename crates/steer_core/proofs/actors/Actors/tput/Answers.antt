use Rattle.steer_invariant.proofs.Invariant.RowLemmas.{held_tput}
use Rattle.steer_core.proofs.actors.Actors.tput.Goals as goal

pub invariant_of-self : goal.invariant_of-self
invariant_of-self c = (
  held_tput _ c.args.a c.hash_of-hash.result c.put.new.self (rw (← c.self.view_is) at c.requires)
      c.put.ensures.state c.self.invariant.0,
  c.self.invariant.1,
)

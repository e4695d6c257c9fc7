use Rattle.steer_invariant.proofs.Invariant.RowLemmas.{held_listed}
use Rattle.steer_core.proofs.actors.Actors.list.Goals as goal

pub invariant_of-self : goal.invariant_of-self
invariant_of-self c =
    rw c.push.ensures (
      held_listed _ c.args.command.now c.args.answer.now c.requires.text
          c.self.invariant.0,
      c.self.invariant.1,
    )

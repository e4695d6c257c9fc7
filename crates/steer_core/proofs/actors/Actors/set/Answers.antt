use Rattle.steer_invariant.proofs.Invariant.CommandLemmas.{held_settings}
use Rattle.steer_core.proofs.ChangeLemmas.{sets_alone}
use Rattle.steer_core.proofs.actors.Actors.set.Goals as goal

pub invariant_of-self : goal.invariant_of-self
invariant_of-self c =
    let asked = c.requires in (
      held_settings _ c.args.command.now c.change.new.self
          (sets_alone c.args.command.now asked.alone)
          (rw (← c.self.view_is) at asked.named) (rw (← c.self.view_is) at asked.done)
          c.change.ensures
          c.self.invariant.0,
      c.self.invariant.1,
    )

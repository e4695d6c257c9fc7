use Rattle.std.proofs.Common.{ap, ◌∙◌}
use Rattle.steer_model.specs.State.Machine.{Machine}
use Rattle.steer_core.specs.Runs.{Run}
use Rattle.steer_core.proofs.CountLemmas.{counted_step, room_for}
use Rattle.steer_core.proofs.PacedSteps.{step-paced}
use Rattle.steer_core.proofs.steering.Steering.step.Goals as goal

pub step-stepped-requires-clause-room : goal.step-stepped-requires-clause-room
step-stepped-requires-clause-room c =
    room_for c.self.inside.actors c.self.inside.made c.self.inside.steps
    (rw (← c.self.view_is) at c.requires.left)
    c.self.invariant.0 c.args.step.now

pub invariant_of-self : goal.invariant_of-self
invariant_of-self c = (
  counted_step c.self.inside.actors c.self.inside.made c.self.inside.steps
      (rw (← c.self.view_is) at c.requires.left) c.self.invariant.0 c.step-stepped.new.self
      c.args.step.now
      (rw (← c.self.view_is) at c.requires.within) c.sound.ensures c.step-stepped.ensures.state
      c.step-stepped.ensures.rooms,
  c.step-stepped.ensures.rest,
)

pub returns-clause-setup : goal.returns-clause-setup
returns-clause-setup c =
    ap (λ (m : Machine). m.setup) c.step-stepped.ensures.state
    ∙ (step-paced c.self.inside.actors.machine c.args.step.now
    (rw (← c.self.view_is) at c.requires.within)
    c.sound.ensures).setup
    ∙ ap (λ (r : Run). r.machine.setup) c.self.view_is

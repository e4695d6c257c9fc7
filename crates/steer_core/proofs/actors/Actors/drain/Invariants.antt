use Rattle.std.proofs.Common.{◌≡◌}
use Rattle.steer_model.specs.Steps.CompoundSteps.{Progress, again, drain_one}
use Rattle.steer_core.specs.Resting.{AreMarked, SameSender}
use Rattle.steer_core.proofs.actors.Actors.drain.Given as goal

abbrev pub invariant-loop : goal.invariant-loop
invariant-loop l =
    (◌≡◌ {A = Progress} (l.self.machine, l.done) (again l.counter (drain_one l.c)
    (l.fn.self.machine, l.fn.worked)))
    × (l.self.machine.setup ≡ l.fn.self.machine.setup) × (l.self.rooms ≡ l.fn.self.rooms)
    × AreMarked l.fn.self.machine.setup.apps l.fn.apps l.apps
    (λ a. SameSender a l.fn.self.machine l.self.machine)

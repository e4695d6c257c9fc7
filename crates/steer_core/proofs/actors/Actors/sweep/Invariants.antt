use Rattle.std.proofs.Common.{◌≡◌, ◌-◌}
use Rattle.steer_model.specs.Steps.CompoundSteps.{Progress, rounds}
use Rattle.steer_core.specs.Resting.{OthersAreDone}
use Rattle.steer_core.specs.Rooms.{HasSpare}
use Rattle.steer_core.proofs.actors.Actors.sweep.Given as goal

abbrev pub invariant-loop : goal.invariant-loop
invariant-loop l =
    (◌≡◌ {A = Progress} (rounds (l.end - l.counter) (l.self.machine, l.worked))
    (rounds l.end (l.fn.self.machine, l.initial.worked)))
    × (l.self.machine.setup ≡ l.fn.self.machine.setup) × (l.self.rooms ≡ l.fn.self.rooms)
    × HasSpare l.self.rooms l.self.machine × OthersAreDone l.busy l.self.machine

use Rattle.std.proofs.Common.{◌≡◌, ◌≤◌, ◌-◌, length}
use Rattle.steer_model.specs.Steps.CompoundSteps.{Progress, for_each, poll}
use Rattle.steer_core.specs.Resting.{OthersAreDone}
use Rattle.steer_core.proofs.actors.Actors.poll_all.Given as goal

abbrev pub invariant-loop-q : goal.invariant-loop-q
invariant-loop-q l = record {
  turn : ◌≡◌ {A = Progress} (l.self.machine, l.done)
      (for_each l.from poll (l.fn.self.machine, l.fn.worked));
  within : l.from ≤ length l.fn.self.machine.setup.homes;
  setup : l.self.machine.setup ≡ l.fn.self.machine.setup;
  rooms : l.self.rooms ≡ l.fn.self.rooms;
  busy : OthersAreDone l.busy l.self.machine;
}

abbrev pub decreases-loop-q : goal.decreases-loop-q
decreases-loop-q l = length l.fn.self.machine.setup.homes - l.from

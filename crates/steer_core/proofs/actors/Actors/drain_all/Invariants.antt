use Rattle.std.proofs.Common.{◌≡◌, ◌≤◌, ◌-◌}
use Rattle.steer_model.specs.Steps.CompoundSteps.{Progress, for_each, drain}
use Rattle.steer_core.specs.Resting.{OthersAreDone}
use Rattle.steer_core.proofs.actors.Actors.drain_all.Given as goal

abbrev pub invariant-loop-c : goal.invariant-loop-c
invariant-loop-c l = record {
  turn : ◌≡◌ {A = Progress} (l.self.machine, l.done)
      (for_each l.from drain (l.fn.self.machine, l.fn.worked));
  within : l.from ≤ l.fn.self.machine.setup.cpus;
  setup : l.self.machine.setup ≡ l.fn.self.machine.setup;
  rooms : l.self.rooms ≡ l.fn.self.rooms;
  busy : OthersAreDone l.busy l.self.machine;
}

abbrev pub decreases-loop-c : goal.decreases-loop-c
decreases-loop-c l = l.fn.self.machine.setup.cpus - l.from

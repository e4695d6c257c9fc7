use Rattle.std.proofs.Common.{◌≡◌, ◌≤◌, ◌-◌}
use Rattle.steer_model.specs.Steps.CompoundSteps.{Progress, for_each, serve}
use Rattle.steer_core.specs.Resting.{OthersAreDone}
use Rattle.steer_core.proofs.actors.Actors.serve_all.Given as goal

abbrev pub invariant-loop-a : goal.invariant-loop-a
invariant-loop-a l = record {
  turn : ◌≡◌ {A = Progress} (l.self.machine, l.done)
      (for_each l.from serve (l.fn.self.machine, l.fn.worked));
  within : l.from ≤ l.fn.self.machine.setup.apps;
  setup : l.self.machine.setup ≡ l.fn.self.machine.setup;
  rooms : l.self.rooms ≡ l.fn.self.rooms;
  busy : OthersAreDone l.busy l.self.machine;
}

abbrev pub decreases-loop-a : goal.decreases-loop-a
decreases-loop-a l = l.fn.self.machine.setup.apps - l.from

use Rattle.std.proofs.Common.{◌≡◌, ◌≤◌, ◌-◌}
use Rattle.steer_model.specs.Steps.CompoundSteps.{Progress, for_each, ship}
use Rattle.steer_core.specs.Resting.{OthersAreDone}
use Rattle.steer_core.proofs.actors.Actors.ship_all.Given as goal

abbrev pub invariant-loop-t : goal.invariant-loop-t
invariant-loop-t l = record {
  turn : ◌≡◌ {A = Progress} (l.self.machine, l.done)
      (for_each l.from ship (l.fn.self.machine, l.fn.worked));
  within : l.from ≤ l.fn.self.machine.setup.txs;
  setup : l.self.machine.setup ≡ l.fn.self.machine.setup;
  rooms : l.self.rooms ≡ l.fn.self.rooms;
  busy : OthersAreDone l.busy l.self.machine;
}

abbrev pub decreases-loop-t : goal.decreases-loop-t
decreases-loop-t l = l.fn.self.machine.setup.txs - l.from

use Rattle.std.proofs.Common.{ap}
use Rattle.steer_model.specs.State.Machine.{history_of}
use Rattle.steer_core.specs.Running.{Running}
use Rattle.steer_core.proofs.actors.Actors.take_apart.Goals as goal

pub returns-clause-history : goal.returns-clause-history
returns-clause-history c =
    rw (c.packet_count-total.ensures.value, c.cut-cut.ensures)
    (ap (λ (r : Running). history_of r.machine) c.self.view_is)

pub returns-clause-port : goal.returns-clause-port
returns-clause-port c = c.self.invariant.0.kept.tx.sizes.port

use Rattle.std.proofs.Common.{◌≡◌, subst}
use Rattle.std.specs.Prelude.{IfOk}
use Rattle.steer_model.specs.State.Machine.{history_of}
use Rattle.steer_core.specs.Runs.{Run}
use Rattle.steer_core.proofs.steering.Steering.into_history.Goals as goal

pub returns : goal.returns
returns c =
    subst (λ (r : Run). IfOk c.into_history.result (λ history. history ≡ history_of r.machine))
    c.self.view_is c.into_history.ensures

use Rattle.std.proofs.Common.{◌≡◌, subst}
use Rattle.std.specs.Prelude.{IfOk}
use Rattle.history.specs.declared.history.History.{History}
use Rattle.steer_core.proofs.actors.Actors.into_history.Goals as goal

pub history_from-requires : goal.history_from-requires
history_from-requires c = c.take_apart-kept.ensures.port

pub returns : goal.returns
returns c =
    subst (λ (h : History). IfOk c.history_from.result (λ history. history ≡ h))
    c.take_apart-kept.ensures.history c.history_from.ensures

use Rattle.std.proofs.Common.{ap, ◌∙◌}
use Rattle.steer_model.specs.Steps.CompoundSteps.{Progress, reply}
use Rattle.steer_core.proofs.actors.Actors.serve.Goals as goal

pub returns-clause-turn : goal.returns-clause-turn
returns-clause-turn c =
    c.reply.ensures.turn ∙ ap (λ (t : Progress). reply c.args.a t) c.recorded-worked.ensures.turn

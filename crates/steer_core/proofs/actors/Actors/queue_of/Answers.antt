use Rattle.std.proofs.Common.{ap, sym, ◌∙◌}
use Rattle.std.specs.Option.{unwrap_or}
use Rattle.history.specs.Lists.{no_arrival}
use Rattle.steer_core.proofs.ListLemmas.{found_numbered}
use Rattle.steer_core.proofs.actors.Actors.queue_of.Goals as goal

pub returns-in-Some : goal.returns-in-Some
returns-in-Some c =
    rw (← c.self.view_is, ← c.id.view_is)
    (sym (ap (λ a. (unwrap_or a no_arrival).queue)
    (found_numbered _ c.id.inside.0 c.self.invariant.0.kept.came.numbered ∙ sym c.get.ensures
    ∙ c.in-Some.is)))

pub returns-in-None : goal.returns-in-None
returns-in-None c =
    rw (← c.self.view_is, ← c.id.view_is)
    (sym (ap (λ a. (unwrap_or a no_arrival).queue)
    (found_numbered _ c.id.inside.0 c.self.invariant.0.kept.came.numbered ∙ sym c.get.ensures
    ∙ c.in-None.is)))

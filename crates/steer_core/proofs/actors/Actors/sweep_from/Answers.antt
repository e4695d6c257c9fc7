use Rattle.std.proofs.Common.{ap, sym, ◌∙◌}
use Rattle.steer_model.specs.Steps.Outcomes.{StepOutcome}
use Rattle.steer_core.proofs.StillLemmas.{still-sweep}
use Rattle.steer_core.proofs.actors.Actors.sweep_from.Goals as goal

pub returns-then-at_rest-clause-state : goal.returns-then-at_rest-clause-state
returns-then-at_rest-clause-state c =
    let still = still-sweep c.args.self.now.machine (c.requires.rest c.if-at_rest.true) in
    sym (ap (λ (o : StepOutcome). o.0) still)

pub returns-then-at_rest-clause-answer : goal.returns-then-at_rest-clause-answer
returns-then-at_rest-clause-answer c =
    let still = still-sweep c.args.self.now.machine (c.requires.rest c.if-at_rest.true) in
    c.ended.ensures ∙ sym (ap (λ (o : StepOutcome). o.1) still)

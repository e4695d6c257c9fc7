use Rattle.steer_invariant.proofs.StepInvariant.StepLemmas.{events_keep_kept, step_keeps_kept}
use Rattle.steer_invariant.proofs.StepInvariant.StepLemmas.{steps_keep_kept}
use Rattle.steer_invariant.proofs.StepInvariant.StepLemmas.{steps_keep_setup}
use Rattle.steer_invariant.proofs.step_invariant_laws.steps_keep_the_invariant.Goals as goal

pub returns-clause-events : goal.returns-clause-events
returns-clause-events c = events_keep_kept

pub returns-clause-step : goal.returns-clause-step
returns-clause-step c = step_keeps_kept

pub returns-clause-steps : goal.returns-clause-steps
returns-clause-steps c = steps_keep_kept

pub returns-clause-setup : goal.returns-clause-setup
returns-clause-setup c = steps_keep_setup

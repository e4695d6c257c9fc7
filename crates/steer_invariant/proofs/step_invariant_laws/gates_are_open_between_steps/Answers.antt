use Rattle.steer_invariant.proofs.StepInvariant.StepLemmas.{kept_is_open}
use Rattle.steer_invariant.proofs.step_invariant_laws.gates_are_open_between_steps.Goals as goal

pub returns : goal.returns
returns c = kept_is_open

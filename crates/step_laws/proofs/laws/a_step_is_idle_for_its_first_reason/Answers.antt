use Rattle.step_laws.proofs.ReasonLemmas.{idle_for_first_reason}
use Rattle.step_laws.proofs.laws.a_step_is_idle_for_its_first_reason.Goals as goal

pub returns : goal.returns
returns c = idle_for_first_reason

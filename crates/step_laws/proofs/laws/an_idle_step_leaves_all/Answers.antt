use Rattle.step_laws.proofs.IdleLemmas.{idle_leaves_all}
use Rattle.step_laws.proofs.laws.an_idle_step_leaves_all.Goals as goal

pub returns : goal.returns
returns c = idle_leaves_all

use Rattle.run_crew.proofs.DrainLemmas.{drains_keep_coupling}
use Rattle.run_crew.proofs.laws.drains_keep_their_coupling.Goals as goal

pub returns : goal.returns
returns c = drains_keep_coupling

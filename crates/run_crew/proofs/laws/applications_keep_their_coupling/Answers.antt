use Rattle.run_crew.proofs.ReplyLemmas.{applications_keep_coupling}
use Rattle.run_crew.proofs.laws.applications_keep_their_coupling.Goals as goal

pub returns : goal.returns
returns c = applications_keep_coupling c.applications_are_coupled.ensures

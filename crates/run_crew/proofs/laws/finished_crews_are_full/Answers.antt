use Rattle.run_crew.proofs.FinishedLemmas.{finished_crews_are_full}
use Rattle.run_crew.proofs.laws.finished_crews_are_full.Goals as goal

pub returns : goal.returns
returns c = finished_crews_are_full

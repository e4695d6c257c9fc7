use Rattle.run_goodness.proofs.Runs.GoodLemmas.{runs_are_good}
use Rattle.run_goodness.proofs.laws.a_run_is_good.Goals as goal

pub returns : goal.returns
returns c = runs_are_good

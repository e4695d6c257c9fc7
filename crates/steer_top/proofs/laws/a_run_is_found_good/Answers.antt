use Rattle.steer_top.proofs.CheckedRuns.{runs-found-good}
use Rattle.steer_top.proofs.laws.a_run_is_found_good.Goals as goal

pub returns : goal.returns
returns c = runs-found-good c.good_is_said_of_good_histories.ensures.good

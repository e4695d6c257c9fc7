use Rattle.run_promise.proofs.RunLemmas.{runs-are-by-run}
use Rattle.run_promise.proofs.laws.a_run_is_by_its_threads.Goals as goal

pub returns : goal.returns
returns c = runs-are-by-run

use Rattle.run_workers.proofs.RestLemmas.{free_workers_rest}
use Rattle.run_workers.proofs.laws.free_workers_rest.Goals as goal

pub returns : goal.returns
returns c = free_workers_rest

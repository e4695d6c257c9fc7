use Rattle.run_workers.proofs.BeginLemmas.{workers_begin}
use Rattle.run_workers.proofs.laws.workers_begin.Goals as goal

pub returns : goal.returns
returns c = workers_begin

use Rattle.run_workers.proofs.BeginLemmas.{arrivals_become_known}
use Rattle.run_workers.proofs.laws.arrivals_become_known.Goals as goal

pub returns : goal.returns
returns c = arrivals_become_known

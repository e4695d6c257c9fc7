use Rattle.run_crew.proofs.QueueCouplingLemmas.{pollers_are_coupled}
use Rattle.run_crew.proofs.coupling_laws.pollers_are_coupled.Goals as goal

pub returns : goal.returns
returns c = pollers_are_coupled

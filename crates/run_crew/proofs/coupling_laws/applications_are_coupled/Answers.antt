use Rattle.run_crew.proofs.ApplicationCouplingLemmas.{applications_are_coupled}
use Rattle.run_crew.proofs.coupling_laws.applications_are_coupled.Goals as goal

pub returns : goal.returns
returns c = applications_are_coupled

use Rattle.run_crew.proofs.StoreCouplingLemmas.{stores_are_meant_by_each, workers_stores_are_meant}
use Rattle.run_crew.proofs.coupling_laws.stores_are_meant.Goals as goal

pub returns-clause-worker : goal.returns-clause-worker
returns-clause-worker c = workers_stores_are_meant

pub returns-clause-each : goal.returns-clause-each
returns-clause-each c = stores_are_meant_by_each

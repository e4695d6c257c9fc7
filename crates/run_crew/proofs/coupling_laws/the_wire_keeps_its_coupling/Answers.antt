use Rattle.run_crew.proofs.ArrivalCouplingLemmas.{wire_keeps_coupling}
use Rattle.run_crew.proofs.coupling_laws.the_wire_keeps_its_coupling.Goals as goal

pub returns : goal.returns
returns c = wire_keeps_coupling

use Rattle.steer_properties.proofs.CompoundSteps.RunLemmas.{drains_of_runs_empty}
use Rattle.steer_properties.proofs.CompoundSteps.TurnLemmas.{drain_empties, drain_round_retires_one}
use Rattle.steer_properties.proofs.compound_laws.a_drain_empties_its_processor.Goals as goal

pub returns-clause-round : goal.returns-clause-round
returns-clause-round c = drain_round_retires_one

pub returns-clause-empty : goal.returns-clause-empty
returns-clause-empty c = drain_empties

pub returns-clause-runs : goal.returns-clause-runs
returns-clause-runs c = drains_of_runs_empty

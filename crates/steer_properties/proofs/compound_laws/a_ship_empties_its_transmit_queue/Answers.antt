use Rattle.steer_properties.proofs.CompoundSteps.RunLemmas.{ships_of_runs_empty}
use Rattle.steer_properties.proofs.CompoundSteps.TurnLemmas.{ship_empties, ship_round_retires_one}
use Rattle.steer_properties.proofs.compound_laws.a_ship_empties_its_transmit_queue.Goals as goal

pub returns-clause-round : goal.returns-clause-round
returns-clause-round c = ship_round_retires_one

pub returns-clause-empty : goal.returns-clause-empty
returns-clause-empty c = ship_empties

pub returns-clause-runs : goal.returns-clause-runs
returns-clause-runs c = ships_of_runs_empty

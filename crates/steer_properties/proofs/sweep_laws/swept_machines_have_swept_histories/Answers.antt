use Rattle.steer_properties.proofs.Sweep.SweptHistoryLemmas.{rest_is_swept}
use Rattle.steer_properties.proofs.Sweep.SweptHistoryLemmas.{seeded_replays_are_swept, sweep_sweeps}
use Rattle.steer_properties.proofs.Sweep.SweptHistoryLemmas.{swept_runs_are_swept}
use Rattle.steer_properties.proofs.sweep_laws.swept_machines_have_swept_histories.Goals as goal

pub returns-clause-rest : goal.returns-clause-rest
returns-clause-rest c = rest_is_swept

pub returns-clause-swept : goal.returns-clause-swept
returns-clause-swept c = sweep_sweeps

pub returns-clause-runs : goal.returns-clause-runs
returns-clause-runs c = swept_runs_are_swept

pub returns-clause-seeded : goal.returns-clause-seeded
returns-clause-seeded c = seeded_replays_are_swept

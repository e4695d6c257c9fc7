use Rattle.steer_properties.proofs.Sweep.RoundLemmas.{idle_round_rests}
use Rattle.steer_properties.proofs.Sweep.SweepLemmas.{sweep_ends_at_rest, sweep_ends_idle}
use Rattle.steer_properties.proofs.sweep_laws.a_sweep_ends_at_rest.Goals as goal

pub returns-clause-idle : goal.returns-clause-idle
returns-clause-idle c = sweep_ends_idle

pub returns-clause-round : goal.returns-clause-round
returns-clause-round c = idle_round_rests

pub returns-clause-rest : goal.returns-clause-rest
returns-clause-rest c = sweep_ends_at_rest

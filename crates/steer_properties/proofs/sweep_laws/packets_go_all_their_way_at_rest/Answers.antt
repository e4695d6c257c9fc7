use Rattle.steer_properties.proofs.Sweep.ThroughLemmas.{rest_is_through, swept_is_through}
use Rattle.steer_properties.proofs.sweep_laws.packets_go_all_their_way_at_rest.Goals as goal

pub returns-clause-rest : goal.returns-clause-rest
returns-clause-rest c = rest_is_through

pub returns-clause-swept : goal.returns-clause-swept
returns-clause-swept c = swept_is_through

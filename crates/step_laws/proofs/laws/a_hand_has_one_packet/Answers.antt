use Rattle.step_laws.proofs.StageLemmas.{new_is_staged, steps_keep_staged}
use Rattle.step_laws.proofs.laws.a_hand_has_one_packet.Goals as goal

pub returns-clause-new : goal.returns-clause-new
returns-clause-new c = new_is_staged

pub returns-clause-steps : goal.returns-clause-steps
returns-clause-steps c = steps_keep_staged

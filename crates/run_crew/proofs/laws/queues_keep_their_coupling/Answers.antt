use Rattle.run_crew.proofs.QueueLemmas.{queues_keep_coupling}
use Rattle.run_crew.proofs.QueueTurnLemmas.{queues_keep_turns}
use Rattle.run_crew.proofs.laws.queues_keep_their_coupling.Goals as goal

pub returns-clause-turns : goal.returns-clause-turns
returns-clause-turns c = queues_keep_turns

pub returns-clause-coupling : goal.returns-clause-coupling
returns-clause-coupling c = queues_keep_coupling c.pollers_are_coupled.ensures

use Rattle.hop_core.proofs.Rounds.{asks_are_joined, runs_are_joined}
use Rattle.hop_core.proofs.laws.lists_of_events_are_joined.Goals as goal

pub returns-clause-run : goal.returns-clause-run
returns-clause-run c = runs_are_joined

pub returns-clause-asks : goal.returns-clause-asks
returns-clause-asks c = asks_are_joined

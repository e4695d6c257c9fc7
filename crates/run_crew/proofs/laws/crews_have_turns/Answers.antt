use Rattle.run_crew.proofs.ExecutionLemmas.{crews_have_turns}
use Rattle.run_crew.proofs.laws.crews_have_turns.Goals as goal

pub returns : goal.returns
returns c = crews_have_turns

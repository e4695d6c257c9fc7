use Rattle.run_goodness.proofs.Tries.AnswerLemmas.{commands_follow}
use Rattle.run_goodness.proofs.laws.commands_are_given.Goals as goal

pub returns : goal.returns
returns c = commands_follow

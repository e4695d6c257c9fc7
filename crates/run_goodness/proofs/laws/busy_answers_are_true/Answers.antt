use Rattle.run_goodness.proofs.Tries.AnswerLemmas.{busy_answers_are_true}
use Rattle.run_goodness.proofs.laws.busy_answers_are_true.Goals as goal

pub returns : goal.returns
returns c = busy_answers_are_true

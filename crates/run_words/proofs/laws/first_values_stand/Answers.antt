use Rattle.run_words.proofs.FirstValues.{first_values_stand}
use Rattle.run_words.proofs.laws.first_values_stand.Goals as goal

pub returns : goal.returns
returns c = first_values_stand

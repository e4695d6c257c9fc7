use Rattle.run_words.proofs.ValueLemmas.{only_coded}
use Rattle.run_words.proofs.laws.only_coded_values_are_read.Goals as goal

pub returns : goal.returns
returns c = only_coded

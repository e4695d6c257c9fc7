use Rattle.run_words.proofs.ValueLemmas.{read_back}
use Rattle.run_words.proofs.laws.coded_values_read_back.Goals as goal

pub returns : goal.returns
returns c = read_back

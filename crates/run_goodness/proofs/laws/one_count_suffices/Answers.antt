use Rattle.run_goodness.proofs.Ends as counts
use Rattle.run_goodness.proofs.laws.one_count_suffices.Goals as goal

pub returns : goal.returns
returns c = counts.one_count_suffices

use Rattle.run_crew.proofs.CountLemmas.{full_counts_suffice}
use Rattle.run_crew.proofs.laws.full_counts_suffice.Goals as goal

pub returns : goal.returns
returns c = full_counts_suffice

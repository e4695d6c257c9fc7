use Rattle.run_workers.proofs.TallyLemmas.{loaded_counts_hold}
use Rattle.run_workers.proofs.laws.loaded_counts_hold.Goals as goal

pub returns : goal.returns
returns c = loaded_counts_hold

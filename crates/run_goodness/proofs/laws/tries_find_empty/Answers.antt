use Rattle.run_coupling.proofs.Tries.EmptiedLemmas as emptied
use Rattle.run_goodness.proofs.laws.tries_find_empty.Goals as goal

pub returns : goal.returns
returns c = emptied.tries_find_empty

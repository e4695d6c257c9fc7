use Rattle.ntuple_rules.proofs.Matched.{fold_of-swapped}
use Rattle.ntuple_rules.proofs.laws.both_directions_fold_alike.Goals as goal

pub returns : goal.returns
returns c = fold_of-swapped

use Rattle.std.proofs.Common.{◌∙◌}
use Rattle.good_check.proofs.DropsLemmas.{within-from}
use Rattle.good_check.proofs.drops.rise.Goals as goal

pub returns-else-are_within-clause-no : goal.returns-else-are_within-clause-no
returns-else-are_within-clause-no c = λ r. c.are_within.ensures ∙ within-from c.args.lane.now r

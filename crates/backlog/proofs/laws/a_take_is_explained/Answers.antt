use Rattle.backlog.proofs.ExplainedLemmas.{AllExplained-take}
use Rattle.backlog.proofs.laws.a_take_is_explained.Goals as goal

pub returns-clause-drops : goal.returns-clause-drops
returns-clause-drops c = AllExplained-take

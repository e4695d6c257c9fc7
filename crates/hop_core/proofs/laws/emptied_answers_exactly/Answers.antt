use Rattle.hop_core.proofs.Empties.{emptied_is_exact, set_is_asked}
use Rattle.hop_core.proofs.laws.emptied_answers_exactly.Goals as goal

pub returns-clause-exact : goal.returns-clause-exact
returns-clause-exact c = emptied_is_exact

pub returns-clause-asked : goal.returns-clause-asked
returns-clause-asked c = set_is_asked

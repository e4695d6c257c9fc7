use Rattle.ntuple_rules.proofs.Matched.{finds_the_first, finds_none}
use Rattle.ntuple_rules.proofs.laws.a_match_is_the_first.Goals as goal

pub returns-clause-first : goal.returns-clause-first
returns-clause-first c = finds_the_first

pub returns-clause-none : goal.returns-clause-none
returns-clause-none c = finds_none

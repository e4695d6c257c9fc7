use Rattle.headline.proofs.GoodLemmas.{good-is-right}
use Rattle.headline.proofs.WholeLemmas.{good-is-whole}
use Rattle.headline.proofs.laws.good_histories_are_right.Goals as goal

pub returns-clause-right : goal.returns-clause-right
returns-clause-right c = good-is-right

pub returns-clause-whole : goal.returns-clause-whole
returns-clause-whole c = good-is-whole

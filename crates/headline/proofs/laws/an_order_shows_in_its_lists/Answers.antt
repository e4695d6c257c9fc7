use Rattle.headline.proofs.ListOrderLemmas.{orders-show}
use Rattle.headline.proofs.laws.an_order_shows_in_its_lists.Goals as goal

pub returns : goal.returns
returns c = orders-show

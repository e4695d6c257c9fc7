use Rattle.board_api.proofs.OwnDrops.{drops_have_causes, drops_rise}
use Rattle.board_api.proofs.OutSums.{lists_are_counted}
use Rattle.run_coupling.specs.Laws.Drops.{DropsFollow}
use Rattle.run_coupling.proofs.Turns.TableLemmas.{drops_follow}
use Rattle.run_goodness.proofs.Names.{own_of, lists_of, at_closings}
use Rattle.run_goodness.proofs.laws.drops_are_explained.Goals as goal

pub returns : goal.returns
returns c =
    at_closings DropsFollow
    (λ about order fit lawful.
    drops_follow about (own_of order) (lists_of about order)
    (drops_have_causes about order lawful) (drops_rise about order lawful)
    (lists_are_counted about (own_of order) order))

use Rattle.board_api.specs.Laws.Lanes.{ListsAreCounted}
use Rattle.board_api.proofs.Names.{own_of}
use Rattle.board_api.proofs.Endings.{at_closings}
use Rattle.board_api.proofs.OutSums.{lists_are_counted}
use Rattle.board_api.proofs.laws.all_lanes_are_left.Goals as goal

pub returns : goal.returns
returns c =
    at_closings ListsAreCounted
    (λ about order fit lawful. lists_are_counted about (own_of order) order)

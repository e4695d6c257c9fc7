use Rattle.board_api.specs.Laws.Heads.{EmptiedLanesStandFirst}
use Rattle.board_api.proofs.Endings.{at_closings}
use Rattle.board_api.proofs.OwnHeads.{emptied_stand_first}
use Rattle.board_api.proofs.laws.emptied_lanes_stand_first.Goals as goal

pub returns : goal.returns
returns c =
    at_closings EmptiedLanesStandFirst
    (λ about order fit lawful. emptied_stand_first about order lawful fit)

use Rattle.board_api.specs.Laws.Lanes.{HoldsFindFronts}
use Rattle.board_api.proofs.Endings.{at_closings}
use Rattle.board_api.proofs.OwnLanes.{holds_find_fronts}
use Rattle.board_api.proofs.laws.holds_find_fronts.Goals as goal

pub returns : goal.returns
returns c =
    at_closings HoldsFindFronts (λ about order fit lawful. holds_find_fronts about order lawful)

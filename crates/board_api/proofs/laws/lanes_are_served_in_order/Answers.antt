use Rattle.board_api.specs.Laws.Lanes.{LanesAreInTurn, LanesAreServedByOne}
use Rattle.board_api.proofs.Endings.{at_closings}
use Rattle.board_api.proofs.OwnLanes.{lanes_are_in_turn, lanes_are_served_by_one}
use Rattle.board_api.proofs.laws.lanes_are_served_in_order.Goals as goal

pub returns-clause-served : goal.returns-clause-served
returns-clause-served c =
    at_closings LanesAreServedByOne (λ about order fit lawful. lanes_are_served_by_one about order
    lawful)

pub returns-clause-turn : goal.returns-clause-turn
returns-clause-turn c =
    at_closings LanesAreInTurn (λ about order fit lawful. lanes_are_in_turn about order lawful)

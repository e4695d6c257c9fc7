use Rattle.board_api.specs.Laws.Lanes.{DeliveriesHavePlaces}
use Rattle.board_api.proofs.Endings.{at_closings}
use Rattle.board_api.proofs.OwnLanes.{deliveries_have_places}
use Rattle.board_api.proofs.laws.deliveries_and_places_agree.Goals as goal

pub returns : goal.returns
returns c =
    at_closings DeliveriesHavePlaces (λ about order fit lawful. deliveries_have_places about order
    lawful)

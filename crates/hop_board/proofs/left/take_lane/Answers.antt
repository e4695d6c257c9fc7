use Rattle.hop_board.proofs.Names.{◌*◌, refl, slots_items, SLOTS_PER_LANE}
use Rattle.hop_board.proofs.Taking.{found_is}
use Rattle.hop_board.proofs.left.take_lane.Goals as goal

pub returns-clause-lane : goal.returns-clause-lane
returns-clause-lane c =
    let items = slots_items c.args.closed.now.slots in
    found_is items items (SLOTS_PER_LANE * c.args.number) c.take-found.result refl
    c.take-found.ensures.value

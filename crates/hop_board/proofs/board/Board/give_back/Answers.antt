use Rattle.board_api.specs.Calls.HeldLanes.{Holds}
use Rattle.hop_board.proofs.Names.{ap, sym, subst, BoardStep, Slot, BoardSeatView, LaneId, is_told}
use Rattle.hop_board.proofs.Names.{step_in, MayGive, Unchanged, false, List}
use Rattle.hop_board.proofs.Held.{may_return}
use Rattle.hop_board.proofs.board.Board.give_back.Goals as goal

pub give-requires-clause-give : goal.give-requires-clause-give
give-requires-clause-give c =
    let about = c.args.self.now.sizes in
    let parts = c.parts-lane.ensures in
    let seat = c.seat.inside.seat in
    let holds = subst (λ (ds : List BoardStep). Holds about ds c.args.held)
    (sym (ap (λ (s : BoardSeatView). s.steps) c.seat.view_is)) c.requires.held in
    subst (λ (k : LaneId × Slot). MayGive about seat k.0 false k.1 (step_in (Unchanged k.0))
    (is_told about (Unchanged k.0) k.1))
    (λ j. (sym parts.lane j, sym parts.content j))
    (may_return about seat c.args.held holds)

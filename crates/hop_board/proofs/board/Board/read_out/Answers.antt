use Rattle.board_api.specs.Calls.HeldLanes.{HoldsOut}
use Rattle.board_api.specs.declared.held_lane.HeldLane.TheVariants.{Out}
use Rattle.hop_board.proofs.Names.{ap, sym, subst, List, BoardStep, IsOut, BoardSeatView}
use Rattle.hop_board.proofs.Held.{may_return}
use Rattle.hop_board.proofs.board.Board.read_out.Goals as goal

pub give-requires-clause-give : goal.give-requires-clause-give
give-requires-clause-give c =
    let about = c.args.self.now.sizes in
    may_return about c.seat.inside.seat (Out c.in-Out.out c.in-Out.content)
    (subst (λ (ds : List BoardStep). IsOut about ds c.in-Out.out c.in-Out.content)
    (sym (ap (λ (s : BoardSeatView). s.steps) c.seat.view_is))
    (subst (HoldsOut about c.args.seat.now.steps) c.in-Out.is c.requires.held))

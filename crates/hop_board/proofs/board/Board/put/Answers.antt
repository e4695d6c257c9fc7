use Rattle.hop_rule.specs.declared.step.Slot.TheVariants as slot
use Rattle.hop_rule.specs.Gates.{visit}
use Rattle.board_api.specs.Calls.HeldLanes.{HoldsMiddle, room_in}
use Rattle.board_api.specs.declared.held_lane.LaneId.TheVariants as id
use Rattle.hop_board.specs.Releases.{rises_by}
use Rattle.hop_board.specs.declared.release.Release.TheVariants.{Offered}
use Rattle.hop_board.proofs.Names.{◌<◌, ap, sym, ◌∙◌, subst, arith, List, LaneLists, BoardStep}
use Rattle.hop_board.proofs.Names.{gate_steps, IsMiddle, BoardSeatView, HeldLane, step_in, MayGive}
use Rattle.hop_board.proofs.Held.{may_put}
use Rattle.hop_board.proofs.board.Board.put.Goals as goal

pub give-requires-clause-give : goal.give-requires-clause-give
give-requires-clause-give c =
    let about = c.args.self.now.sizes in
    let lane = c.in-Middle.lane in
    let found = c.in-Middle.content in
    let answer = c.put-answer.result in
    let steps = ap (λ (s : BoardSeatView). s.steps) c.seat.view_is in
    let held = subst (λ (ds : List BoardStep). IsMiddle about ds lane found) (sym steps)
    (subst (HoldsMiddle about c.args.seat.now.steps) c.in-Middle.is c.requires.held) in
    let room = subst (λ (h : HeldLane). 0 < room_in h) c.in-Middle.is c.requires.room in
    subst (λ (y : LaneLists). MayGive about c.seat.inside.seat (id.Middle lane) (rises_by answer)
    (slot.Middle y)
    (step_in (Offered lane c.args.id c.args.hash answer)) (Unit {0}))
    (sym c.put-answer.ensures.lists)
    (may_put about c.seat.inside.seat lane c.args.id found c.args.hash answer held
    (ap (λ ds. visit (gate_steps ds)) steps ∙ c.requires.inside) c.requires.id
    (omega arith) c.put-answer.ensures.answer)

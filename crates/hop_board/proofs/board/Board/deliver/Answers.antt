use Rattle.hop_rule.specs.declared.step.LaneStep.TheVariants as step
use Rattle.hop_rule.specs.declared.step.Slot.TheVariants as slot
use Rattle.hop_rule.specs.Boards.{out_slot}
use Rattle.hop_rule.specs.Lanes.{has_pulled}
use Rattle.board_api.specs.Calls.HeldLanes.{HoldsOut, room_in}
use Rattle.board_api.specs.Calls.Results.{DeliverTells}
use Rattle.board_api.specs.declared.held_lane.LaneId.TheVariants as id
use Rattle.hop_board.specs.declared.release.Release.TheVariants.{Given}
use Rattle.hop_board.proofs.Names.{◌≡◌, ◌+◌, ◌<◌, [], ◌∷◌, true, ap, sym, ◌∙◌, subst, arith, List}
use Rattle.hop_board.proofs.Names.{length, slice_index, length-append, BoardStep, Lane, LaneIn}
use Rattle.hop_board.proofs.Names.{lane_steps, phase, OutList, IsOut, BoardSeatView, HeldLane}
use Rattle.hop_board.proofs.Names.{board_seat, step_in, MayGive}
use Rattle.hop_board.proofs.Held.{may_deliver}
use Rattle.hop_board.proofs.board.Board.deliver.Goals as goal

pub give-requires-clause-give : goal.give-requires-clause-give
give-requires-clause-give c =
    let about = c.args.self.now.sizes in
    let out = c.in-Out.out in
    let found = c.in-Out.content in
    let lane = c.args.lane in
    let packet = slice_index c.seat.inside.pulled lane in
    let place = c.len-place.result in
    let steps = ap (λ (s : BoardSeatView). s.steps) c.seat.view_is in
    let number = ap (λ (s : BoardSeatView). s.number) c.seat.view_is in
    let holds = subst (λ (ds : List BoardStep). IsOut about ds out found) (sym steps)
    (subst (HoldsOut about c.args.seat.now.steps) c.in-Out.is c.requires.held) in
    let room = subst (λ (h : HeldLane). 0 < room_in h) c.in-Out.is c.requires.room in
    let fits = c.fits.ensures in
    let lanes = fits.lanes in
    let within = c.requires.within in
    let asked = c.requires.pulled in
    let phase_is = ap (λ ds. phase lane (lane_steps ds)) steps ∙ asked.1 in
    let noted = c.seat.invariant.in_hand lane asked.0 (omega arith) phase_is in
    let longer = length-append found.items (packet ∷ []) in
    let long = c.len-place.ensures ∙ ap (λ (y : OutList). length y.items) c.push.ensures in
    let place_is : place ≡ length found.items + 1 = omega arith in
    subst (λ (y : OutList). MayGive about c.seat.inside.seat (id.Out out) true (slot.Out y)
    (step_in (Given out lane packet place)) (Unit {0})) (sym c.push.ensures)
    (may_deliver about c.seat.inside.seat out lane packet place found holds within (omega arith)
    (c.requires.mine ∙ sym number) (phase_is ∙ ap has_pulled (sym noted)) place_is)

pub returns : goal.returns
returns c =
    let about = c.args.self.now.sizes in
    let out = c.in-Out.out in
    let found = c.in-Out.content in
    let lane = c.args.lane in
    let packet = slice_index c.seat.inside.pulled lane in
    let place = c.len-place.result in
    let steps = ap (λ (s : BoardSeatView). s.steps) c.seat.view_is in
    let fits = c.fits.ensures in
    let lanes = fits.lanes in
    let within = c.requires.within in
    let asked = c.requires.pulled in
    let noted = c.seat.invariant.in_hand lane asked.0 (omega arith)
    (ap (λ ds. phase lane (lane_steps ds)) steps ∙ asked.1) in
    let longer = length-append found.items (packet ∷ []) in
    let long = c.len-place.ensures ∙ ap (λ (y : OutList). length y.items) c.push.ensures in
    let place_is : place ≡ length found.items + 1 = omega arith in
    subst (λ (h : HeldLane). DeliverTells about h lane c.args.seat.now
    (board_seat c.give.new.seat c.seat.inside.has_emptied) place) (sym c.in-Out.is) (
      packet,
      asked.1 ∙ ap has_pulled (sym noted),
      place_is,
      ap (λ s. board_seat s c.seat.inside.has_emptied) c.give.ensures.step
          ∙ ap (λ (b : BoardSeatView). record b {
            steps = Lane (step.Given out lane packet place)
                ∷ LaneIn (out_slot about out) ∷ b.steps;
          })
          c.seat.view_is,
    )

use Rattle.hop_rule.specs.declared.step.Slot.TheVariants as slot
use Rattle.board_api.specs.Calls.HeldLanes.{HasNoneOf, HoldsMiddle, PullsFrom}
use Rattle.board_api.specs.declared.held_lane.HeldLane.TheVariants as held
use Rattle.board_api.specs.declared.held_lane.LaneId.TheVariants as id
use Rattle.hop_board.specs.declared.release.Release.TheVariants.{Pulled}
use Rattle.hop_board.proofs.Names.{◌<◌, false, ap, sym, ◌∙◌, subst, List, LaneLists, BoardStep}
use Rattle.hop_board.proofs.Names.{lane_steps, phase, IsMiddle, BoardSeatView, step_in, MayGive}
use Rattle.hop_board.proofs.Names.{Unchanged}
use Rattle.hop_board.proofs.Held.{may_pull, may_return, none_taken, taken_is}
use Rattle.hop_board.proofs.board.Board.pull.Goals as goal

pub give-requires-clause-give : goal.give-requires-clause-give
give-requires-clause-give c =
    let about = c.args.self.now.sizes in
    let lane = c.in-Middle.lane in
    let found = c.in-Middle.content in
    let packet = c.in-Some.id in
    let steps = ap (λ (s : BoardSeatView). s.steps) c.seat.view_is in
    let number = ap (λ (s : BoardSeatView). s.number) c.seat.view_is in
    let holds = subst (λ (ds : List BoardStep). IsMiddle about ds lane found) (sym steps)
    (subst (HoldsMiddle about c.args.seat.now.steps) c.in-Middle.is c.requires.held) in
    let mine = subst (PullsFrom about c.args.seat.now.number) c.in-Middle.is c.requires.mine in
    let none = subst (HasNoneOf c.args.seat.now.steps) c.in-Middle.is c.requires.idle in
    let waits = sym c.take.ensures.packet ∙ c.in-Some.is in
    subst (λ (y : LaneLists). MayGive about c.seat.inside.seat (id.Middle lane) false
    (slot.Middle y)
    (step_in (Pulled lane packet)) (packet < about.room))
    (sym (c.take.ensures.lists ∙ taken_is found packet waits))
    (may_pull about c.seat.inside.seat lane packet found holds (mine ∙ sym number)
    (ap (λ ds. phase lane (lane_steps ds)) steps ∙ none) waits)

pub give-requires-in-None-clause-give : goal.give-requires-in-None-clause-give
give-requires-in-None-clause-give c =
    let about = c.args.self.now.sizes in
    let lane = c.in-Middle.lane in
    let found = c.in-Middle.content in
    let steps = ap (λ (s : BoardSeatView). s.steps) c.seat.view_is in
    let holds = subst (λ (ds : List BoardStep). IsMiddle about ds lane found) (sym steps)
    (subst (HoldsMiddle about c.args.seat.now.steps) c.in-Middle.is c.requires.held) in
    let waits = sym c.take.ensures.packet ∙ c.in-None.is in
    subst (λ (y : LaneLists). MayGive about c.seat.inside.seat (id.Middle lane) false
    (slot.Middle y)
    (step_in (Unchanged (id.Middle lane))) (Unit {0}))
    (sym (c.take.ensures.lists ∙ none_taken found waits))
    (may_return about c.seat.inside.seat (held.Middle lane found) holds)

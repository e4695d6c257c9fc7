use Rattle.hop_board.proofs.Names.{◌+◌, ◌<◌, sym, ap, ◌∙◌, subst, BoardView}
use Rattle.hop_board.proofs.Looks.{LooksBelow}
use Rattle.hop_board.proofs.Looks.{finds_first, looks_more, looks_none, looks_past}
use Rattle.hop_board.proofs.board.Board.look_over.Goals as goal
use Rattle.hop_board.proofs.board.Board.look_over.Goals.{else-has, then-has+else-head-tail}

pub loop-lane-init : goal.loop-lane-init
loop-lane-init c = looks_none c.args.self.now.sizes c.args.lanes c.args.seat.now

pub returns-then-head-tail : goal.returns-then-head-tail
returns-then-head-tail c = λ e.
    let x = c.look_at-head.ensures in
    let less : c.loop-lane.lane < c.args.self.now.sizes.lanes =
    subst (λ z. c.loop-lane.lane < z) (ap (λ (h : BoardView). h.sizes.lanes) c.self.view_is)
    c.loop-lane-test.true in
    finds_first c.args.self.now.sizes c.args.lanes c.args.seat.now c.loop-lane.lane c.loop-lane.seat
    c.look_at-head.new.seat c.loop-lane.invariant x.0 x.1 x.4 (sym c.has.ensures
    ∙ c.if-has.true) less
    c.look_at-head.result.0 c.look_at-head.result.1 x.2 x.3 c.if-head-tail.true e

pub loop-lane-preserved : goal.loop-lane-preserved
loop-lane-preserved c = elim c.if-has.branch [
  | then-has+else-head-tail w ↦ (
      let x = w.look_at-head.ensures in
      subst (λ s. LooksBelow c.args.lanes (c.loop-lane.lane + 1) c.args.seat.now s) (sym w.seat-is)
      (looks_more c.args.self.now.sizes c.args.lanes c.args.seat.now c.loop-lane.lane
      c.loop-lane.seat
      w.look_at-head.new.seat c.loop-lane.invariant x.0 x.1 x.4 (sym c.has.ensures ∙ w.if-has.true)
      (sym x.2 ∙ (w.if-head-tail.false ∙ x.3))))
  | else-has w ↦
      subst (λ s. LooksBelow c.args.lanes (c.loop-lane.lane + 1) c.args.seat.now s) (sym w.seat-is)
      (looks_past c.args.self.now.sizes c.args.lanes c.args.seat.now c.loop-lane.lane
      c.loop-lane.seat
      c.loop-lane.seat c.loop-lane.invariant (sym c.has.ensures ∙ w.if-has.false))
]

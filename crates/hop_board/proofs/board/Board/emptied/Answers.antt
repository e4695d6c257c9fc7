use Rattle.hop_board.proofs.Kept.{emptied_kept}
use Rattle.hop_board.proofs.board.Board.emptied.Goals as goal

pub invariant_of-seat : goal.invariant_of-seat
invariant_of-seat c =
    emptied_kept c.seat.inside.pulled c.seat.inside.openings c.seat.inside.visit
    c.args.self.now.sizes c.args.lanes c.seat.inside.seat
    c.look_over-answer.new.seat c.seat.inside.has_emptied c.look_over-answer.result
    (c.look_over-answer.ensures c.seat.inside.has_emptied) c.seat.invariant

pub invariant_of-seat-in_default : goal.invariant_of-seat-in_default
invariant_of-seat-in_default c =
    emptied_kept c.seat.inside.pulled c.seat.inside.openings c.seat.inside.visit
    c.args.self.now.sizes c.args.lanes c.seat.inside.seat
    c.look_over-answer.new.seat c.seat.inside.has_emptied c.look_over-answer.result
    (c.look_over-answer.ensures c.seat.inside.has_emptied) c.seat.invariant

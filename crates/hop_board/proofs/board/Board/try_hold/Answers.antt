use Rattle.hop_board.proofs.Kept.{taken_kept}
use Rattle.hop_board.proofs.board.Board.try_hold.Goals as goal

pub invariant_of-seat : goal.invariant_of-seat
invariant_of-seat c =
    taken_kept c.seat.inside.pulled c.seat.inside.openings c.seat.inside.visit
    c.args.self.now.sizes c.args.lane c.seat.inside.seat c.take.new.seat c.take.result
    c.take.ensures c.seat.invariant

use Rattle.hop_board.proofs.WordSteps.{acts_at}
use Rattle.hop_board.proofs.board.Board.load_as.Goals as goal

pub load-requires : goal.load-requires
load-requires g c =
    acts_at c.seat.inside.seat.id c.args.word c.self.invariant c.self.view_is c.seat.view_is
    c.requires.table c.seat.invariant c.requires.within c.place-place.ensures
    (λ n. n) g.J.Told.makes g.J.Told.says 0 0 c.requires.act

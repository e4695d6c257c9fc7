use prog.Atomic.{either}
use Rattle.hop_board.proofs.Names.{◌==◌}
use Rattle.hop_board.proofs.WordSteps.{acts_at}
use Rattle.hop_board.proofs.board.Board.exchange_as.Goals as goal

pub compare_exchange-requires : goal.compare_exchange-requires
compare_exchange-requires g c =
    acts_at c.seat.inside.seat.id c.args.word c.self.invariant c.self.view_is c.seat.view_is
    c.requires.table c.seat.invariant c.requires.within c.place-place.ensures
    (λ n. either (n == c.args.old) c.args.new n) g.J.Told.makes g.J.Told.says c.args.old
    c.args.new c.requires.act

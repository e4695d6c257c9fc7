use Rattle.hop_board.proofs.WordSteps.{stores_at}
use Rattle.hop_board.proofs.board.Board.store_as.Goals as goal

pub store-requires : goal.store-requires
store-requires g c =
    stores_at c.seat.inside.seat.id c.args.word c.self.invariant c.self.view_is c.seat.view_is
    c.requires.table c.seat.invariant c.requires.within c.place-place.ensures
    c.args.value g.J.Told.makes g.J.Told.says c.requires.act

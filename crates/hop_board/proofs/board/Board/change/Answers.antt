use Rattle.hop_board.proofs.Acts.{sets}
use Rattle.hop_board.proofs.board.Board.change.Goals as goal

pub store_as-requires-clause-act : goal.store_as-requires-clause-act
store_as-requires-clause-act c =
    sets c.args.self.now.sizes c.args.seat.now c.args.i c.args.v c.requires.within c.requires.closer
    c.requires.closed

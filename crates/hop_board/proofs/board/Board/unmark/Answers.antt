use Rattle.hop_board.proofs.Acts.{opens}
use Rattle.hop_board.proofs.board.Board.unmark.Goals as goal

pub add_as-requires-clause-act : goal.add_as-requires-clause-act
add_as-requires-clause-act c =
    opens c.args.self.now.sizes c.args.seat.now c.requires.closer c.requires.closed

use Rattle.hop_board.proofs.Acts.{retires}
use Rattle.hop_board.proofs.board.Board.raise_head.Goals as goal

pub add_as-requires-clause-act : goal.add_as-requires-clause-act
add_as-requires-clause-act c =
    retires c.args.self.now.sizes c.args.seat.now c.args.lane c.requires.within c.requires.mine
    c.requires.delivered

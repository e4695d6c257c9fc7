use Rattle.hop_board.proofs.Acts.{enters}
use Rattle.hop_board.proofs.board.Board.step_in.Goals as goal

pub add_as-requires-clause-act : goal.add_as-requires-clause-act
add_as-requires-clause-act c =
    enters c.args.self.now.sizes c.args.seat.now c.requires.outside c.requires.open

use Rattle.hop_board.proofs.Acts.{loads}
use Rattle.hop_board.proofs.board.Board.load.Goals as goal

pub load_as-requires-clause-act : goal.load_as-requires-clause-act
load_as-requires-clause-act c =
    loads c.args.self.now.sizes c.args.seat.now c.args.word c.requires.within c.requires.may

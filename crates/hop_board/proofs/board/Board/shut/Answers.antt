use Rattle.hop_board.proofs.Acts.{shuts}
use Rattle.hop_board.proofs.board.Board.shut.Goals as goal

pub exchange_as-requires-clause-act : goal.exchange_as-requires-clause-act
exchange_as-requires-clause-act c =
    shuts c.args.self.now.sizes c.args.seat.now c.args.free c.requires.closer c.requires.outside
    c.requires.open
    c.requires.few c.requires.free

use Rattle.hop_board.proofs.Acts.{leaves}
use Rattle.hop_board.proofs.board.Board.step_out.Goals as goal

pub sub_as-requires-clause-act : goal.sub_as-requires-clause-act
sub_as-requires-clause-act c = leaves c.args.self.now.sizes c.args.seat.now c.requires.inside
